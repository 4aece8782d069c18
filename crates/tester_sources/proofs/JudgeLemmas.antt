-- How the plans of a program go on behind its tokens.
use Rattle.std.proofs.Common.{◌≡◌, ℕ, ◌+◌, List, [], Option, Some, None, Result, Ok, Err, refl, sym, ap, subst}
use Rattle.tester_io.specs.Outside.{Contents, FilesSeen}
use Rattle.mql_tree.specs.declared.token.Tree.{Tree}
use Rattle.mql_preproc.specs.declared.source.Source.{Source}
use Rattle.mql_parse.specs.declared.fault.ParseFault.{ParseFault}
use Rattle.mql_parse.specs.Parsed.{Parsing}
use Rattle.tester_answer.specs.declared.status.Status.{Status}
use Rattle.tester_answer.specs.declared.status.Status.TheVariants as status
use Rattle.tester_answer.specs.Answer.{Plan, Gives, never}
use Rattle.tester_answer.specs.Clauses.{Refused, Never}
use Rattle.tester_answer.proofs.PlanLemmas.{Leads, leads_same, leads_finding}
use Rattle.tester_answer.specs.Answer.{OneEnd}
use Rattle.tester_answer.proofs.OneEnd.{refuses_one, finds_one}
use Rattle.tester_sources.specs.Reading.{Tokens, program_plan, OneAnswer}
use Rattle.tester_sources.specs.Judging.{with_tree, tree_plan, TreeRefused, OneTree}
use Rattle.tester_sources.specs.Rules.{with_rules, program_refused, RulesRefused}
use Rattle.tester_sources.specs.declared.rules.ProgramFault.{ProgramFault}
use Rattle.tester_sources.proofs.SourceLemmas.{sources_lead, sources_one}
use Rattle.tester_sources.proofs.Refusing.{is_broken}
use Rattle.mql_source.specs.Limits.{most_files}

-- what follows the tokens may be anything
pub program_lead : (entry : List ℕ) (next : List Source → Tokens → Plan) (told : Option Contents) → Leads (program_plan entry next) (program_plan entry (λ sources tokens. never)) told
unfolding program_plan
program_lead entry next told = sources_lead (most_files + 1) entry [] next told

-- past the tree
pub tree_leads : (entry : List ℕ) (sources : List Source) (tokens : Tokens) (tree : Tree) (next : List Source → Tokens → Tree → Plan) (told : Option Contents) → Parsing tokens (Ok tree) → Leads (tree_plan entry next sources tokens) (next sources tokens tree) told
tree_leads entry sources tokens tree next told parses = leads_finding (Result Tree ParseFault) (Parsing tokens) (with_tree entry sources tokens (next sources tokens)) told (Ok tree) parses

-- tokens without a tree are refused
pub tree_refused : (entry : List ℕ) (sources : List Source) (tokens : Tokens) (next : List Source → Tokens → Tree → Plan) (before now : FilesSeen) (s : Status) → TreeRefused entry sources tokens s → Refused Never (tree_plan entry next sources tokens) before now s
tree_refused entry sources tokens next before now (status.Source given) (fault, is, same) = λ held i. (Err fault, is, (ap status.Source same, refl, refl))
tree_refused entry sources tokens next before now status.OutOfMemory h = tt
tree_refused entry sources tokens next before now status.Done h = absurd h
tree_refused entry sources tokens next before now (status.Usage rule) h = absurd h
tree_refused entry sources tokens next before now (status.Settings rule key) h = absurd h
tree_refused entry sources tokens next before now (status.Prices file row rule) h = absurd h
tree_refused entry sources tokens next before now (status.CodeFile rule place) h = absurd h
tree_refused entry sources tokens next before now (status.Grid rule input) h = absurd h
tree_refused entry sources tokens next before now (status.Absent name) h = absurd h
tree_refused entry sources tokens next before now (status.ReadFault name) h = absurd h
tree_refused entry sources tokens next before now status.WriteFault h = absurd h
tree_refused entry sources tokens next before now (status.TooLarge name) h = absurd h

-- past the rules
pub rules_lead : (entry : List ℕ) (sources : List Source) (tokens : Tokens) (tree : Tree) (next : Plan) (told : Option Contents) → program_refused sources tokens tree ≡ None → Leads (with_rules entry sources tokens next (program_refused sources tokens tree)) next told
rules_lead entry sources tokens tree next told is = subst (λ r. Leads (with_rules entry sources tokens next r) next told) (sym is) (leads_same next told)

-- and a program that breaks one
pub rules_refuse : (entry : List ℕ) (sources : List Source) (tokens : Tokens) (tree : Tree) (next : Plan) (before now : FilesSeen) (s : Status) → RulesRefused entry sources tokens tree s → Refused Never (with_rules entry sources tokens next (program_refused sources tokens tree)) before now s
rules_refuse entry sources tokens tree next before now (status.Source given) (f, is, same) =
    λ held i. subst (λ r. Gives (with_rules entry sources tokens next r) held (status.Source given) [] held) (sym (is_broken sources tokens tree f is)) (ap status.Source same, refl, refl)
rules_refuse entry sources tokens tree next before now status.OutOfMemory h = tt
rules_refuse entry sources tokens tree next before now status.Done h = absurd h
rules_refuse entry sources tokens tree next before now (status.Usage rule) h = absurd h
rules_refuse entry sources tokens tree next before now (status.Settings rule key) h = absurd h
rules_refuse entry sources tokens tree next before now (status.Prices file row rule) h = absurd h
rules_refuse entry sources tokens tree next before now (status.CodeFile rule place) h = absurd h
rules_refuse entry sources tokens tree next before now (status.Grid rule input) h = absurd h
rules_refuse entry sources tokens tree next before now (status.Absent name) h = absurd h
rules_refuse entry sources tokens tree next before now (status.ReadFault name) h = absurd h
rules_refuse entry sources tokens tree next before now status.WriteFault h = absurd h
rules_refuse entry sources tokens tree next before now (status.TooLarge name) h = absurd h

-- one status, where each tree gives one
with_tree_one : (entry : List ℕ) (sources : List Source) (tokens : Tokens) (next : Tree → Plan) → ((tree : Tree) → OneEnd (next tree)) → (answer : Result Tree ParseFault) → OneEnd (with_tree entry sources tokens next answer)
with_tree_one entry sources tokens next each (Ok tree) = each tree
with_tree_one entry sources tokens next each (Err fault) = refuses_one _

pub with_rules_one : (entry : List ℕ) (sources : List Source) (tokens : Tokens) (next : Plan) → OneEnd next → (answer : Option ProgramFault) → OneEnd (with_rules entry sources tokens next answer)
with_rules_one entry sources tokens next each None = each
with_rules_one entry sources tokens next each (Some r) = refuses_one _

pub tree_one : OneTree → (entry : List ℕ) (sources : List Source) (tokens : Tokens) (next : List Source → Tokens → Tree → Plan) → ((tree : Tree) → OneEnd (next sources tokens tree)) → OneEnd (tree_plan entry next sources tokens)
tree_one alone entry sources tokens next each = finds_one (Result Tree ParseFault) (Parsing tokens) (with_tree entry sources tokens (next sources tokens)) (alone tokens) (with_tree_one entry sources tokens (next sources tokens) each)

pub program_one : OneAnswer → (entry : List ℕ) (next : List Source → Tokens → Plan) → ((sources : List Source) (tokens : Tokens) → OneEnd (next sources tokens)) → OneEnd (program_plan entry next)
unfolding program_plan
program_one one entry next each = sources_one one (most_files + 1) entry [] next each
