-- How the plan of a program goes on behind its tree.
use Rattle.std.proofs.Common.{◌≡◌, ℕ, List, [], Option, Result, Ok, Err, refl, sym, ap, subst}
use Rattle.tester_io.specs.Outside.{Contents, FilesSeen}
use Rattle.mql_tree.specs.declared.token.Tree.{Tree}
use Rattle.mql_preproc.specs.declared.source.Source.{Source}
use Rattle.mql_meaning.specs.declared.tree.Checked.{Checked}
use Rattle.tester_answer.specs.declared.status.Status.{Status}
use Rattle.tester_answer.specs.declared.status.Status.TheVariants as status
use Rattle.tester_answer.specs.Answer.{Plan, Gives, OneEnd}
use Rattle.tester_answer.specs.Clauses.{Refused, Never}
use Rattle.tester_answer.proofs.PlanLemmas.{Leads, leads_same}
use Rattle.tester_answer.proofs.OneEnd.{refuses_one}
use Rattle.tester_sources.specs.Reading.{Tokens}
use Rattle.tester_program.specs.declared.program.RunFault.{RunFault}
use Rattle.tester_program.specs.Programs.{runs, with_run, RunRefused}

-- past the program
pub run_leads : (entry : List ℕ) (sources : List Source) (tokens : Tokens) (tree : Tree) (checked : Checked) (next : Checked → Plan) (told : Option Contents) → runs sources tokens tree ≡ Ok checked → Leads (with_run entry sources tokens next (runs sources tokens tree)) (next checked) told
run_leads entry sources tokens tree checked next told is = subst (λ r. Leads (with_run entry sources tokens next r) (next checked) told) (sym is) (leads_same (next checked) told)

-- a program that is not run is refused
pub run_refuses : (entry : List ℕ) (sources : List Source) (tokens : Tokens) (tree : Tree) (next : Checked → Plan) (before now : FilesSeen) (s : Status) → RunRefused entry sources tokens tree s → Refused Never (with_run entry sources tokens next (runs sources tokens tree)) before now s
run_refuses entry sources tokens tree next before now (status.Source given) (f, is, same) =
    λ held i. subst (λ r. Gives (with_run entry sources tokens next r) held (status.Source given) [] held) (sym is) (ap status.Source same, refl, refl)
run_refuses entry sources tokens tree next before now status.OutOfMemory h = tt
run_refuses entry sources tokens tree next before now status.Done h = absurd h
run_refuses entry sources tokens tree next before now (status.Usage rule) h = absurd h
run_refuses entry sources tokens tree next before now (status.Settings rule key) h = absurd h
run_refuses entry sources tokens tree next before now (status.Prices file row rule) h = absurd h
run_refuses entry sources tokens tree next before now (status.CodeFile rule place) h = absurd h
run_refuses entry sources tokens tree next before now (status.Grid rule input) h = absurd h
run_refuses entry sources tokens tree next before now (status.Absent name) h = absurd h
run_refuses entry sources tokens tree next before now (status.ReadFault name) h = absurd h
run_refuses entry sources tokens tree next before now status.WriteFault h = absurd h
run_refuses entry sources tokens tree next before now (status.TooLarge name) h = absurd h

-- one status, where each program gives one
pub with_run_one : (entry : List ℕ) (sources : List Source) (tokens : Tokens) (next : Checked → Plan) → ((checked : Checked) → OneEnd (next checked)) → (answer : Result Checked RunFault) → OneEnd (with_run entry sources tokens next answer)
with_run_one entry sources tokens next each (Ok checked) = each checked
with_run_one entry sources tokens next each (Err f) = refuses_one _
