-- Why the rules of a program refuse it.
use Rattle.std.proofs.Common.{◌≡◌, ◌∙◌, ap, ℕ, List, Option, Some, None, Result, Ok, Err}
use Rattle.mql_meaning.specs.declared.tree.Checked.{Checked}
use Rattle.mql_tree.specs.declared.token.Tree.{Tree}
use Rattle.mql_preproc.specs.declared.source.Source.{Source}
use Rattle.mql_parse.specs.Classes.{classes_of}
use Rattle.mql_syntax.specs.declared.declaration.Syntax.{Syntax}
use Rattle.mql_syntax_read.specs.Items.{program}
use Rattle.tester_answer.specs.declared.status.Status.{Status}
use Rattle.tester_answer.specs.declared.status.Status.TheVariants as status
use Rattle.tester_sources.specs.declared.rules.ProgramFault.{ProgramFault}
use Rattle.tester_sources.specs.Faults.{TellsFault}
use Rattle.tester_sources.specs.Reading.{Tokens}
use Rattle.tester_sources.specs.Rules.{syntax_or, syntax_of, syntax_judged, program_judged, fault_in, program_refused, program_fault, RulesRefused}

-- the syntax that the tree has
pub has_syntax : (tokens : Tokens) (tree : Tree) (s : Syntax) → program tokens (classes_of tokens) 200 tree ≡ Some s → syntax_of tokens tree ≡ s
unfolding syntax_of
has_syntax tokens tree s is = ap syntax_or is

-- what that syntax comes to
pub is_judged : (sources : List Source) (tokens : Tokens) (tree : Tree) (s : Syntax) (r : Result Checked ProgramFault) → program tokens (classes_of tokens) 200 tree ≡ Some s → syntax_judged sources tokens s ≡ r → program_judged sources tokens tree ≡ r
unfolding program_judged
is_judged sources tokens tree s r is e = ap (syntax_judged sources tokens) (has_syntax tokens tree s is) ∙ e

-- a program that is typed keeps the rules
pub is_kept : (sources : List Source) (tokens : Tokens) (tree : Tree) (p : Checked) → program_judged sources tokens tree ≡ Ok p → program_refused sources tokens tree ≡ None
unfolding program_refused
is_kept sources tokens tree p is = ap fault_in is

-- and one that is not is refused
pub is_broken : (sources : List Source) (tokens : Tokens) (tree : Tree) (f : ProgramFault) → program_judged sources tokens tree ≡ Err f → program_refused sources tokens tree ≡ Some f
unfolding program_refused
is_broken sources tokens tree f is = ap fault_in is

-- the status of a fault tells it
pub tells_fault : (entry : List ℕ) (sources : List Source) (tokens : Tokens) (tree : Tree) (f : ProgramFault) (s : Status) → program_judged sources tokens tree ≡ Err f → TellsFault (program_fault entry sources tokens f) s → RulesRefused entry sources tokens tree s
tells_fault entry sources tokens tree f (status.Source given) is told = (f, is, told)
tells_fault entry sources tokens tree f status.OutOfMemory is told = tt
tells_fault entry sources tokens tree f status.Done is told = absurd told
tells_fault entry sources tokens tree f (status.Usage rule) is told = absurd told
tells_fault entry sources tokens tree f (status.Settings rule key) is told = absurd told
tells_fault entry sources tokens tree f (status.Prices file row rule) is told = absurd told
tells_fault entry sources tokens tree f (status.CodeFile rule place) is told = absurd told
tells_fault entry sources tokens tree f (status.Grid rule input) is told = absurd told
tells_fault entry sources tokens tree f (status.Absent name) is told = absurd told
tells_fault entry sources tokens tree f (status.ReadFault name) is told = absurd told
tells_fault entry sources tokens tree f status.WriteFault is told = absurd told
tells_fault entry sources tokens tree f (status.TooLarge name) is told = absurd told
