-- Why the program of a tree is run, or is not.
use Rattle.std.proofs.Common.{◌≡◌, ◌∙◌, ap, inr, true, false, ℕ, List, Option, Some, None, Result, Ok, Err}
use Rattle.mql_tree.specs.declared.token.Tree.{Tree}
use Rattle.mql_preproc.specs.declared.source.Source.{Source}
use Rattle.mql_syntax.specs.declared.declaration.Syntax.{Syntax}
use Rattle.mql_parse.specs.Parsed.{Parsing}
use Rattle.mql_names.specs.declared.fault.Broken.{Broken}
use Rattle.mql_meaning.specs.declared.tree.Checked.{Checked}
use Rattle.mql_market_calls.specs.Calls.{first_market_call}
use Rattle.stack_code.specs.declared.code.Code.{Code}
use Rattle.stack_emission.specs.HasCode.{has_code}
use Rattle.tester_answer.specs.declared.status.Status.{Status}
use Rattle.tester_answer.specs.declared.status.Status.TheVariants as status
use Rattle.tester_sources.specs.Faults.{TellsFault}
use Rattle.tester_sources.specs.Reading.{Tokens}
use Rattle.tester_sources.specs.Rules.{syntax_of, program_judged, RulesRefused}
use Rattle.tester_program.specs.declared.program.RunFault.{RunFault}
use Rattle.tester_program.specs.declared.program.RunFault.TheVariants.{Rules, MarketCall, NotBuilt}
use Rattle.tester_program.specs.Programs.{by_code, by_calls, by_rules, runs, run_fault, IsRun, IsProgramOf, RunRefused, ProgramRefused}

-- a typed program: without a call of an account or a market, and with code
pub called : (call : Option Broken) (b : Broken) (p : Checked) → call ≡ Some b → by_calls call p ≡ Err (MarketCall b)
called call b p is = ap (λ c. by_calls c p) is

pub coded : (call : Option Broken) (p : Checked) → call ≡ None → has_code p ≡ true → by_calls call p ≡ Ok p
coded call p is h = ap (λ c. by_calls c p) is ∙ ap (by_code p) h

pub uncoded : (call : Option Broken) (p : Checked) → call ≡ None → has_code p ≡ false → by_calls call p ≡ Err NotBuilt
uncoded call p is h = ap (λ c. by_calls c p) is ∙ ap (by_code p) h

-- the program of a tree whose syntax that is
pub run_is : (sources : List Source) (tokens : Tokens) (tree : Tree) (s : Syntax) (p : Checked) (r : Result Checked RunFault) → syntax_of tokens tree ≡ s → program_judged sources tokens tree ≡ Ok p → by_calls (first_market_call s) p ≡ r → runs sources tokens tree ≡ r
unfolding runs
run_is sources tokens tree s p r syntax judged is =
    ap (by_rules (first_market_call (syntax_of tokens tree))) judged ∙ ap (λ x. by_calls (first_market_call x) p) syntax ∙ is

-- a program that breaks a rule
pub rules_refused : (entry : List ℕ) (sources : List Source) (tokens : Tokens) (tree : Tree) (s : Status) → RulesRefused entry sources tokens tree s → RunRefused entry sources tokens tree s
unfolding runs
rules_refused entry sources tokens tree (status.Source given) (f, is, told) = (Rules f, ap (by_rules (first_market_call (syntax_of tokens tree))) is, told)
rules_refused entry sources tokens tree status.OutOfMemory h = tt
rules_refused entry sources tokens tree status.Done h = absurd h
rules_refused entry sources tokens tree (status.Usage rule) h = absurd h
rules_refused entry sources tokens tree (status.Settings rule key) h = absurd h
rules_refused entry sources tokens tree (status.Prices file row rule) h = absurd h
rules_refused entry sources tokens tree (status.CodeFile rule place) h = absurd h
rules_refused entry sources tokens tree (status.Grid rule input) h = absurd h
rules_refused entry sources tokens tree (status.Absent name) h = absurd h
rules_refused entry sources tokens tree (status.ReadFault name) h = absurd h
rules_refused entry sources tokens tree status.WriteFault h = absurd h
rules_refused entry sources tokens tree (status.TooLarge name) h = absurd h

-- its code is that of the tokens
pub is_program : (sources : List Source) (tokens : Tokens) (tree : Tree) (s : Syntax) (p : Checked) (code : Code) → Parsing tokens (Ok tree) → syntax_of tokens tree ≡ s → program_judged sources tokens tree ≡ Ok p → IsRun (first_market_call s) p (Ok code) → IsProgramOf sources tokens code
is_program sources tokens tree s p code parses syntax judged is = record {
  tree = tree;
  parses = parses;
  checked = p;
  means = run_is sources tokens tree s p (Ok p) syntax judged is.0;
  stands = is.1;
  paced = is.2;
}

-- the status of a fault tells it
pub tells_fault : (entry : List ℕ) (sources : List Source) (tokens : Tokens) (tree : Tree) (f : RunFault) (s : Status) → runs sources tokens tree ≡ Err f → TellsFault (run_fault entry sources tokens f) s → RunRefused entry sources tokens tree s
tells_fault entry sources tokens tree f (status.Source given) is told = (f, is, told)
tells_fault entry sources tokens tree f status.OutOfMemory is told = tt
tells_fault entry sources tokens tree f status.Done is told = absurd told
tells_fault entry sources tokens tree f (status.Usage rule) is told = absurd told
tells_fault entry sources tokens tree f (status.Settings rule key) is told = absurd told
tells_fault entry sources tokens tree f (status.Prices file row rule) is told = absurd told
tells_fault entry sources tokens tree f (status.CodeFile rule place) is told = absurd told
tells_fault entry sources tokens tree f (status.Grid rule input) is told = absurd told
tells_fault entry sources tokens tree f (status.Absent name) is told = absurd told
tells_fault entry sources tokens tree f (status.ReadFault name) is told = absurd told
tells_fault entry sources tokens tree f status.WriteFault is told = absurd told
tells_fault entry sources tokens tree f (status.TooLarge name) is told = absurd told

-- why the tokens make no program
pub is_refused : (entry : List ℕ) (sources : List Source) (tokens : Tokens) (tree : Tree) (s : Syntax) (p : Checked) (f : RunFault) (told : Status) → Parsing tokens (Ok tree) → syntax_of tokens tree ≡ s → program_judged sources tokens tree ≡ Ok p → IsRun (first_market_call s) p (Err f) → TellsFault (run_fault entry sources tokens f) told → ProgramRefused entry sources tokens told
is_refused entry sources tokens tree s p f told parses syntax judged is tells =
    inr (tree, parses, tells_fault entry sources tokens tree f told (run_is sources tokens tree s p (Err f) syntax judged is) tells)
