-- The tokens of a program are judged: their tree. Own.
use Rattle.std.specs.Prelude.{◌≡◌, ◌-◌, ℕ, List, length, Option, Some, None, Result, Ok, Err, slice_get}
use Rattle.mql_tree.specs.declared.token.Span.{Span}
use Rattle.mql_tree.specs.declared.token.Token as token
use Rattle.mql_tree.specs.declared.token.Tree.{Tree}
use Rattle.mql_preproc.specs.declared.source.Source.{Source}
use Rattle.mql_parse.specs.declared.fault.ParseFault.{ParseFault}
use Rattle.mql_parse.specs.declared.fault.ParseFault.TheVariants as parsing
use Rattle.mql_parse.specs.Parsed.{Parsing}
use Rattle.mql_source.specs.declared.fault.SourceFault.{SourceFault}
use Rattle.tester_answer.specs.declared.status.Status.{Status}
use Rattle.tester_answer.specs.declared.status.Status.TheVariants as status
use Rattle.tester_answer.specs.Answer.{Plan, Finds, refuses}
use Rattle.tester_sources.specs.Faults.{at_span}
use Rattle.tester_sources.specs.Reading.{Tokens}

-- the place of a token that is there
abbrev pub span_of : Option (token.Token × Span) → Option Span
span_of None = None
span_of (Some t) = Some t.1

abbrev pub span_at : Tokens → ℕ → Option Span
span_at tokens place = span_of (slice_get tokens place)

-- the place of the last token
abbrev pub last_span : Tokens → Option Span
last_span tokens = span_at tokens (length tokens - 1)

-- the first of two places that is there
abbrev pub either_span : Option Span → Option Span → Option Span
either_span None other = other
either_span (Some span) other = Some span

-- the place of a token; where the end of the tokens is at fault, that of the last one
abbrev pub span_near : Tokens → ℕ → Option Span
span_near tokens place = either_span (span_at tokens place) (last_span tokens)

-- a rule of a stage that is broken at a place, else at line 1 of the entry
abbrev pub placed : List ℕ → List Source → ℕ → ℕ → Option Span → SourceFault
placed entry sources stage rule None = record { stage = stage; rule = rule; file = entry; line = 1 }
placed entry sources stage rule (Some span) = at_span sources stage rule span

-- the rules of stage 4, the tree (MQL5 Reference, Language Basics, Syntax; the limits are our own)
abbrev pub tree_fault : List ℕ → List Source → Tokens → ParseFault → SourceFault
tree_fault entry sources tokens (parsing.Syntax place) = placed entry sources 4 1 (span_near tokens place)
tree_fault entry sources tokens (parsing.Depth place) = placed entry sources 4 2 (span_near tokens place)
tree_fault entry sources tokens (parsing.Nodes place) = placed entry sources 4 3 (span_near tokens place)
tree_fault entry sources tokens parsing.OutOfMemory = placed entry sources 4 0 None

-- goes on with the tree, or refuses the tokens by stage 4
abbrev pub with_tree : List ℕ → List Source → Tokens → (Tree → Plan) → Result Tree ParseFault → Plan
with_tree entry sources tokens next (Ok tree) = next tree
with_tree entry sources tokens next (Err fault) =
    refuses (status.Source (tree_fault entry sources tokens fault))

abbrev pub tree_plan : List ℕ → (List Source → Tokens → Tree → Plan) → List Source → Tokens → Plan
tree_plan entry next sources tokens =
    Finds (Result Tree ParseFault) (Parsing tokens) (with_tree entry sources tokens (next sources tokens))

-- the status that tells a fault of the tokens' tree
abbrev pub TreeRefused : List ℕ → List Source → Tokens → Status → Type 0
TreeRefused entry sources tokens (status.Source given) =
    (fault : ParseFault) × Parsing tokens (Err fault) × (given ≡ tree_fault entry sources tokens fault)
TreeRefused entry sources tokens status.OutOfMemory = Unit {0}
TreeRefused entry sources tokens _ = ⊥

-- tokens have one answer of the parser
abbrev pub OneTree : Type 0
OneTree = (tokens : Tokens) (a b : Result Tree ParseFault) → Parsing tokens a → Parsing tokens b → a ≡ b
