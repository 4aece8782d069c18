-- From the tokens of a program to its code. Own, with MQL5 Reference, Language Basics.
use Rattle.std.specs.Prelude.{◌≡◌, ◌⊎◌, ℕ, Bool, true, false, List, Option, Some, None, Result, Ok, Err}
use Rattle.mql_tree.specs.declared.token.Tree.{Tree}
use Rattle.mql_preproc.specs.declared.source.Source.{Source}
use Rattle.mql_parse.specs.Parsed.{Parsing}
use Rattle.mql_names.specs.declared.fault.Broken.{Broken}
use Rattle.mql_meaning.specs.declared.tree.Checked.{Checked}
use Rattle.mql_market_calls.specs.Calls.{first_market_call}
use Rattle.stack_code.specs.declared.code.Code.{Code}
use Rattle.stack_code.specs.Paced.{Paced}
use Rattle.stack_follows.specs.Stands.{Stands}
use Rattle.stack_emission.specs.HasCode.{has_code}
use Rattle.mql_source.specs.declared.fault.SourceFault.{SourceFault}
use Rattle.tester_answer.specs.declared.status.Status.{Status}
use Rattle.tester_answer.specs.declared.status.Status.TheVariants as status
use Rattle.tester_answer.specs.Answer.{Plan, refuses}
use Rattle.tester_sources.specs.declared.rules.ProgramFault.{ProgramFault}
use Rattle.tester_sources.specs.Reading.{Tokens}
use Rattle.tester_sources.specs.Judging.{span_at, placed, TreeRefused}
use Rattle.tester_sources.specs.Rules.{syntax_of, program_judged, program_fault}
use Rattle.tester_program.specs.declared.program.RunFault.{RunFault}
use Rattle.tester_program.specs.declared.program.RunFault.TheVariants.{Rules, MarketCall, NotBuilt}

-- a typed program that is run, or why not: it must need no account and no market, and have code
abbrev pub by_code : Checked → Bool → Result Checked RunFault
by_code p true = Ok p
by_code p false = Err NotBuilt

abbrev pub by_calls : Option Broken → Checked → Result Checked RunFault
by_calls (Some b) p = Err (MarketCall b)
by_calls None p = by_code p (has_code p)

abbrev pub by_rules : Option Broken → Result Checked ProgramFault → Result Checked RunFault
by_rules call (Ok p) = by_calls call p
by_rules call (Err f) = Err (Rules f)

-- the typed program of a tree that is run, or why there is none: the rules come first, then calls that need an
-- account or a market, then whether it has code
unfoldable pub runs : List Source → Tokens → Tree → Result Checked RunFault
runs sources tokens tree = by_rules (first_market_call (syntax_of tokens tree)) (program_judged sources tokens tree)

-- a call that needs an account or a market breaks stage 7, rule 2, at its name; a program without code breaks
-- stage 7, rule 1, at line 1 of the entry
abbrev pub run_fault : List ℕ → List Source → Tokens → RunFault → SourceFault
run_fault entry sources tokens (Rules f) = program_fault entry sources tokens f
run_fault entry sources tokens (MarketCall b) = placed entry sources 7 2 (span_at tokens b.first)
run_fault entry sources tokens NotBuilt = placed entry sources 7 1 None

-- goes on with the typed program, or refuses it
abbrev pub with_run : List ℕ → List Source → Tokens → (Checked → Plan) → Result Checked RunFault → Plan
with_run entry sources tokens next (Ok p) = next p
with_run entry sources tokens next (Err f) = refuses (status.Source (run_fault entry sources tokens f))

-- code that a typed program got, or why it got none
abbrev pub IsRun : Option Broken → Checked → Result Code RunFault → Type 0
IsRun call p (Ok code) = (by_calls call p ≡ Ok p) × Stands p code × Paced code
IsRun call p (Err f) = by_calls call p ≡ Err f

-- the code of a program's tokens: they have a tree, whose program is run, and the code stands for it and spends
-- steps
pub record IsProgramOf (sources : List Source) (tokens : Tokens) (code : Code) : Type 0 where
  pub tree : Tree
  pub parses : Parsing tokens (Ok tree)
  pub checked : Checked
  pub means : runs sources tokens tree ≡ Ok checked
  pub stands : Stands checked code
  pub paced : Paced code

-- the status that tells why the program of a tree is not run
abbrev pub RunRefused : List ℕ → List Source → Tokens → Tree → Status → Type 0
RunRefused entry sources tokens tree (status.Source given) =
    (f : RunFault) × (runs sources tokens tree ≡ Err f) × (given ≡ run_fault entry sources tokens f)
RunRefused entry sources tokens tree status.OutOfMemory = Unit {0}
RunRefused entry sources tokens tree _ = ⊥

-- why tokens make no program: they have no tree, or its program is not run
abbrev pub ProgramRefused : List ℕ → List Source → Tokens → Status → Type 0
ProgramRefused entry sources tokens s =
    TreeRefused entry sources tokens s ⊎ ((tree : Tree) × Parsing tokens (Ok tree)
    × RunRefused entry sources tokens tree s)
