-- Stages 5 and 6: the declarations and the types of a program are judged. Own.
use Rattle.std.specs.Prelude.{◌≡◌, Option, Some, None, Result, Ok, Err, List, [], map, ℕ}
use Rattle.mql_tree.specs.declared.token.Tree.{Tree}
use Rattle.mql_tree.specs.declared.text.TextFault.{TextFault}
use Rattle.mql_tree.specs.Text.{text_of}
use Rattle.mql_preproc.specs.declared.source.Source.{Source}
use Rattle.mql_parse.specs.Classes.{classes_of}
use Rattle.mql_syntax.specs.declared.declaration.Syntax.{Syntax}
use Rattle.mql_syntax_read.specs.Items.{program}
use Rattle.mql_names.specs.declared.fault.Broken.{Broken}
use Rattle.mql_meaning.specs.declared.tree.Checked.{Checked}
use Rattle.mql_decls.specs.declared.fault.Refusal.{Refusal}
use Rattle.mql_decls.specs.declared.fault.Refusal.TheVariants as refusal
use Rattle.mql_decls.specs.Rules.{refused}
use Rattle.mql_values.specs.Sources.{given_of}
use Rattle.mql_check.specs.Programs.{check}
use Rattle.mql_source.specs.declared.fault.SourceFault.{SourceFault}
use Rattle.tester_answer.specs.declared.status.Status.{Status}
use Rattle.tester_answer.specs.declared.status.Status.TheVariants as status
use Rattle.tester_answer.specs.Answer.{Plan, refuses}
use Rattle.tester_sources.specs.declared.rules.ProgramFault.{ProgramFault}
use Rattle.tester_sources.specs.declared.rules.ProgramFault.TheVariants.{Declarations, Types}
use Rattle.tester_sources.specs.Reading.{Tokens}
use Rattle.tester_sources.specs.Judging.{span_at, placed}

-- the syntax of a tree: each tree of the parser has one, and where there is none it has no items
abbrev pub no_items : Syntax
no_items = record { place = record { at = 0; first = 0 }; nodes = 0; items = [] }

abbrev pub syntax_or : Option Syntax → Syntax
syntax_or None = no_items
syntax_or (Some s) = s

unfoldable pub syntax_of : Tokens → Tree → Syntax
syntax_of tokens tree = syntax_or (program tokens (classes_of tokens) 200 tree)

-- the name of a file as a text; bytes that are none stand each for a unit
abbrev pub text_or : List ℕ → Result (List ℕ) TextFault → List ℕ
text_or bytes (Ok text) = text
text_or bytes (Err fault) = bytes

abbrev pub file_text : List ℕ → List ℕ
file_text name = text_or name (text_of name)

abbrev pub file_texts : List Source → List (List ℕ)
file_texts sources = map (λ (s : Source). file_text s.name) sources

-- the typed program of a syntax, or the broken rule of types that is told
unfoldable pub syntax_typed : List Source → Tokens → Syntax → Result Checked Broken
syntax_typed sources tokens s = check (given_of s.items tokens (file_texts sources)) s

-- the typed program, or the rule that it breaks: of its form and its declarations, else of its types
abbrev pub by_types : Result Checked Broken → Result Checked ProgramFault
by_types (Ok checked) = Ok checked
by_types (Err broken) = Err (Types broken)

abbrev pub by_rules : Option Refusal → Result Checked Broken → Result Checked ProgramFault
by_rules (Some r) typed = Err (Declarations r)
by_rules None typed = by_types typed

abbrev pub syntax_judged : List Source → Tokens → Syntax → Result Checked ProgramFault
syntax_judged sources tokens s = by_rules (refused s) (syntax_typed sources tokens s)

unfoldable pub program_judged : List Source → Tokens → Tree → Result Checked ProgramFault
program_judged sources tokens tree = syntax_judged sources tokens (syntax_of tokens tree)

-- why it is refused, if it is
abbrev pub fault_in : Result Checked ProgramFault → Option ProgramFault
fault_in (Ok checked) = None
fault_in (Err f) = Some f

unfoldable pub program_refused : List Source → Tokens → Tree → Option ProgramFault
program_refused sources tokens tree = fault_in (program_judged sources tokens tree)

-- a node that is not of the form that is built so far breaks stage 7, rule 1; else the rules of stage 5, the
-- declarations, and of stage 6, the types (MQL5 Reference, Language Basics), each at the first token of its node
abbrev pub program_fault : List ℕ → List Source → Tokens → ProgramFault → SourceFault
program_fault entry sources tokens (Declarations (refusal.NotPlain b)) =
    placed entry sources 7 1 (span_at tokens b.first)
program_fault entry sources tokens (Declarations (refusal.Rule b)) =
    placed entry sources 5 b.rule (span_at tokens b.first)
program_fault entry sources tokens (Types b) = placed entry sources 6 b.rule (span_at tokens b.first)

-- goes on where no rule is broken, or refuses the program
abbrev pub with_rules : List ℕ → List Source → Tokens → Plan → Option ProgramFault → Plan
with_rules entry sources tokens next None = next
with_rules entry sources tokens next (Some f) =
    refuses (status.Source (program_fault entry sources tokens f))

-- the status that tells why a program is refused
abbrev pub RulesRefused : List ℕ → List Source → Tokens → Tree → Status → Type 0
RulesRefused entry sources tokens tree (status.Source given) =
    (f : ProgramFault) × (program_judged sources tokens tree ≡ Err f)
    × (given ≡ program_fault entry sources tokens f)
RulesRefused entry sources tokens tree status.OutOfMemory = Unit {0}
RulesRefused entry sources tokens tree _ = ⊥
