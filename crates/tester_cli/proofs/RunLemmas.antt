-- The plan of a command line has one status over given contents, so where it has Done nothing is refused.
use Rattle.std.proofs.Common.{◌≡◌, ℕ, Bool, true, false, List, [], ◌∷◌, ◌≤◌, inl, inr, length, take, Option, Some, None, Ok, Err, ◌++◌, refl, sym, subst, ◌∙◌}
use Rattle.std.specs.Str.{bytes_eq}
use Rattle.std.specs.Prelude.{codes}
use Rattle.tester_io.specs.Outside.{Contents, FilesSeen, SinkSeen, WhereTold}
use Rattle.mql_meaning.specs.declared.tree.Checked.{Checked}
use Rattle.market_types.specs.declared.bar.Bar.{Bar}
use Rattle.price_rows.specs.Files.{Judged, bars_of_file}
use Rattle.tester_answer.specs.declared.status.Status.{Status}
use Rattle.tester_answer.specs.declared.status.Status.TheVariants.{Done, Usage, Prices}
use Rattle.tester_answer.specs.Answer.{Plan, Ends, Gives, never}
use Rattle.tester_answer.specs.Clauses.{OnlyRead, ReadingRefused, Refused, Never, Has, Gained, Wrote, Began}
use Rattle.tester_answer.proofs.PlanLemmas.{Leads, leads_on, refused_here, refused_on, only_read_same}
use Rattle.tester_answer.specs.Answer.{OneEnd}
use Rattle.tester_answer.proofs.OneEnd.{refuses_one, reads_one}
use Rattle.tester_answer.specs.Answer.{refuses}
use Rattle.tester_cli.specs.declared.run.Command.{Command}
use Rattle.tester_cli.specs.declared.run.Command.TheVariants.{Quick, Check, Quotes}
use Rattle.tester_cli.specs.Commands.{with_bars, reports, quick_bars, quick_tree, quick_rest, quick_plan, says, check_tree, check_plan, command_of, with_one, with_two, plan_of_names, plan_of_command, plan_of}
use Rattle.tester_market.specs.Reading.{price_limit}
use Rattle.tester_market.proofs.QuotesPlan.{quotes_one}
use Rattle.tester_program.specs.Programs.{runs, IsProgramOf, ProgramRefused}
use Rattle.tester_program.proofs.RunLemmas.{run_leads, run_refuses, with_run_one}
use Rattle.stack_code.specs.declared.code.Code.{Code}
use Rattle.mql_tree.specs.declared.token.Tree.{Tree}
use Rattle.mql_preproc.specs.declared.source.Source.{Source}
use Rattle.mql_preproc.specs.Reading.{Preprocesses}
use Rattle.mql_parse.specs.Parsed.{Parsing}
use Rattle.tester_pass.specs.Laws.{OneOutcome}
use Rattle.tester_cli.proofs.OneReport.{reports_once}
use Rattle.tester_sources.specs.Reading.{Tokens, program_plan, ReadInTurn, OneAnswer}
use Rattle.tester_sources.specs.Judging.{tree_plan, OneTree}
use Rattle.tester_sources.proofs.SourceLemmas.{read_leads}
use Rattle.tester_sources.proofs.JudgeLemmas.{program_lead, tree_leads, tree_refused, program_one, tree_one, rules_lead, rules_refuse, with_rules_one}
use Rattle.tester_sources.specs.Rules.{RulesRefused}
use Rattle.tester_sources.specs.Rules as rules
use Rattle.mql_source.specs.Limits.{most_files}

-- over files that have one answer of preprocessing, tokens that have one of the parser, and sources whose passes have one outcome
module _ (one : OneAnswer) (alone : OneTree) (outcome : OneOutcome) where
  reports_one : (checked : Checked) (bars : List Bar) → OneEnd (Ends (reports checked bars))
  reports_one checked bars held s s' text text' after after' g g' =
      (g.0 ∙ sym g'.0, reports_once outcome checked bars text text' g.1 g'.1, g.2 ∙ sym g'.2)

  bars_one : (name : List ℕ) (checked : Checked) (found : Judged Bar) → OneEnd (with_bars name found (λ rows. Ends (reports checked rows)))
  bars_one name checked (Err fault) = refuses_one (Prices name fault.0 fault.1)
  bars_one name checked (Ok bars) = reports_one checked bars

  bars_read_one : (bars : List ℕ) (checked : Checked) → OneEnd (quick_bars bars checked)
  bars_read_one bars checked = reads_one bars price_limit (λ bytes. with_bars bars (bars_of_file bytes) (λ rows. Ends (reports checked rows))) (λ bytes. bars_one bars checked (bars_of_file bytes))

  quick_one : (expert bars : List ℕ) → OneEnd (quick_plan expert bars)
  quick_one expert bars =
      program_one one expert (quick_rest expert bars)
      (λ sources tokens. tree_one alone expert sources tokens (quick_tree expert bars) (λ tree. with_run_one expert sources tokens (quick_bars bars) (λ checked. bars_read_one bars checked) (runs sources tokens tree)))

  said_one : (words : List ℕ) → OneEnd (Ends (says words))
  said_one words held s s' text text' after after' g g' = (g.0 ∙ sym g'.0, g.1 ∙ sym g'.1, g.2 ∙ sym g'.2)

  check_one : (entry : List ℕ) → OneEnd (check_plan entry)
  check_one entry =
      program_one one entry (tree_plan entry (check_tree entry))
      (λ sources tokens. tree_one alone entry sources tokens (check_tree entry) (λ tree. with_rules_one entry sources tokens (Ends (says (codes "ok" ++ 10 ∷ []))) (said_one (codes "ok" ++ 10 ∷ [])) (rules.program_refused sources tokens tree)))

  with_one_one : (command : Command) (name : List ℕ) → OneEnd (with_one command name)
  with_one_one Quick name = refuses_one (Usage 3)
  with_one_one Check name = check_one name
  with_one_one Quotes name = quotes_one name

  with_two_one : (command : Command) (one other : List ℕ) → OneEnd (with_two command one other)
  with_two_one Quick one other = quick_one one other
  with_two_one Check one other = refuses_one (Usage 3)
  with_two_one Quotes one other = refuses_one (Usage 3)

  names_one : (command : Command) (names : List (List ℕ)) → OneEnd (plan_of_names command names)
  names_one command [] = refuses_one (Usage 3)
  names_one command (name ∷ []) = with_one_one command name
  names_one command (one ∷ other ∷ []) = with_two_one command one other
  names_one command (one ∷ other ∷ more ∷ most) = refuses_one (Usage 3)

  command_one : (command : Option Command) (names : List (List ℕ)) → OneEnd (plan_of_command command names)
  command_one None names = refuses_one (Usage 2)
  command_one (Some command) names = names_one command names

  pub plan_one : (words : List (List ℕ)) → OneEnd (plan_of words)
  plan_one [] = refuses_one (Usage 2)
  plan_one (word ∷ names) = command_one (command_of word) names

-- the reading of the bars is refused
pub bars_refused : (bars : List ℕ) (checked : Checked) (before now : FilesSeen) (status : Status) (name : List ℕ) → name ≡ bars → ReadingRefused name price_limit before now status → Refused Never (quick_bars bars checked) before now status
bars_refused bars checked before now status name e r =
    refused_here Never bars price_limit (λ bytes. with_bars bars (bars_of_file bytes) (λ rows. Ends (reports checked rows))) before now status
    (subst (λ n. ReadingRefused n price_limit before now status) e r)

-- the sources are refused
pub sources_refused : (entry : List ℕ) (next : List Source → Tokens → Plan) (before now : FilesSeen) (s : Status) → Refused Never (program_plan entry (λ sources tokens. never)) before now s → Refused Never (program_plan entry next) before now s
sources_refused entry next before now s r = refused_on Never (program_plan entry next) (program_plan entry (λ sources tokens. never)) before before now s (program_lead entry next before.told) (only_read_same before) r

-- what comes behind the tokens is refused
pub behind_refused : (entry : List ℕ) (sources : List Source) (tokens : Tokens) (next : List Source → Tokens → Plan) (before mid now : FilesSeen) (s : Status) → WhereTold before.told (λ held. ReadInTurn entry held sources) → length sources ≤ most_files → Preprocesses entry sources (Ok tokens) → OnlyRead before mid → Refused Never (next sources tokens) mid now s → Refused Never (program_plan entry next) before now s
behind_refused entry sources tokens next before mid now s turns few makes read r =
    refused_on Never (program_plan entry next) (next sources tokens) before mid now s (read_leads entry before.told sources tokens next turns few makes) read r

-- the program is refused
pub program_refused : (expert bars : List ℕ) (sources : List Source) (tokens : Tokens) (before now : FilesSeen) (s : Status) → ProgramRefused expert sources tokens s → Refused Never (quick_rest expert bars sources tokens) before now s
program_refused expert bars sources tokens before now s (inl h) = tree_refused expert sources tokens (quick_tree expert bars) before now s h
program_refused expert bars sources tokens before now s (inr (tree, parses, h)) =
    refused_on Never (quick_rest expert bars sources tokens) (quick_tree expert bars sources tokens tree) before before now s (tree_leads expert sources tokens tree (quick_tree expert bars) before.told parses) (only_read_same before) (run_refuses expert sources tokens tree (quick_bars bars) before now s h)

-- what comes behind the program
pub program_leads : (expert bars : List ℕ) (sources : List Source) (tokens : Tokens) (tree : Tree) (checked : Checked) (told : Option Contents) → Parsing tokens (Ok tree) → runs sources tokens tree ≡ Ok checked → Leads (quick_rest expert bars sources tokens) (quick_bars bars checked) told
program_leads expert bars sources tokens tree checked told parses means =
    leads_on (quick_rest expert bars sources tokens) (quick_tree expert bars sources tokens tree) (quick_bars bars checked) told (tree_leads expert sources tokens tree (quick_tree expert bars) told parses) (run_leads expert sources tokens tree checked (quick_bars bars) told means)

-- all of `quick` behind the files that were read and the program
pub quick_leads : (expert bars : List ℕ) (sources : List Source) (tokens : Tokens) (told : Option Contents) (code : Code) (p : IsProgramOf sources tokens code) → WhereTold told (λ held. ReadInTurn expert held sources) → length sources ≤ most_files → Preprocesses expert sources (Ok tokens) → Leads (quick_plan expert bars) (quick_bars bars p.checked) told
quick_leads expert bars sources tokens told code p turns few makes =
    leads_on (quick_plan expert bars) (quick_rest expert bars sources tokens) (quick_bars bars p.checked) told (read_leads expert told sources tokens (quick_rest expert bars) turns few makes)
    (program_leads expert bars sources tokens p.tree p.checked told p.parses p.means)

-- what comes behind the rules
pub check_leads : (entry : List ℕ) (sources : List Source) (tokens : Tokens) (tree : Tree) (told : Option Contents) → Parsing tokens (Ok tree) → rules.program_refused sources tokens tree ≡ None → Leads (tree_plan entry (check_tree entry) sources tokens) (Ends (says (codes "ok" ++ 10 ∷ []))) told
check_leads entry sources tokens tree told parses declared =
    leads_on (tree_plan entry (check_tree entry) sources tokens) (check_tree entry sources tokens tree) (Ends (says (codes "ok" ++ 10 ∷ []))) told (tree_leads entry sources tokens tree (check_tree entry) told parses) (rules_lead entry sources tokens tree (Ends (says (codes "ok" ++ 10 ∷ []))) told declared)

-- `check` writes its text where there is a tree and no rule is broken
pub check_given : (entry : List ℕ) (sources : List Source) (tokens : Tokens) (tree : Tree) (told : Option Contents) (text : List ℕ) → WhereTold told (λ held. ReadInTurn entry held sources) → length sources ≤ most_files → Preprocesses entry sources (Ok tokens) → Parsing tokens (Ok tree) → rules.program_refused sources tokens tree ≡ None → text ≡ codes "ok" ++ 10 ∷ [] → WhereTold told (λ held. Gives (check_plan entry) held Done text held)
check_given entry sources tokens tree told text turns few makes parses declared says_ok held is =
    (read_leads entry told sources tokens (tree_plan entry (check_tree entry)) turns few makes).gives held is Done text held
    ((check_leads entry sources tokens tree told parses declared).gives held is Done text held (refl, says_ok, refl))

-- and is refused where a rule is
pub check_refused : (entry : List ℕ) (sources : List Source) (tokens : Tokens) (tree : Tree) (before now : FilesSeen) (s : Status) → Parsing tokens (Ok tree) → RulesRefused entry sources tokens tree s → Refused Never (tree_plan entry (check_tree entry) sources tokens) before now s
check_refused entry sources tokens tree before now s parses h =
    refused_on Never (tree_plan entry (check_tree entry) sources tokens) (check_tree entry sources tokens tree) before before now s (tree_leads entry sources tokens tree (check_tree entry) before.told parses) (only_read_same before) (rules_refuse entry sources tokens tree (Ends (says (codes "ok" ++ 10 ∷ []))) before now s h)

-- a refusal behind the program
pub quick_refused : (expert bars : List ℕ) (sources : List Source) (tokens : Tokens) (before mid now : FilesSeen) (s : Status) (code : Code) (p : IsProgramOf sources tokens code) → WhereTold before.told (λ held. ReadInTurn expert held sources) → length sources ≤ most_files → Preprocesses expert sources (Ok tokens) → OnlyRead before mid → Refused Never (quick_bars bars p.checked) mid now s → Refused Never (quick_plan expert bars) before now s
quick_refused expert bars sources tokens before mid now s code p turns few makes read r =
    refused_on Never (quick_plan expert bars) (quick_bars bars p.checked) before mid now s (quick_leads expert bars sources tokens before.told code p turns few makes) read r

-- a text that the plan has was written whole, or in part
pub wrote : (plan : Plan) (text : List ℕ) (before now : FilesSeen) (sink_before sink_now : SinkSeen) → Has plan before text → OnlyRead before now → Gained text sink_before sink_now → Wrote plan before now sink_before sink_now
wrote plan text before now sink_before sink_now has read gained held told =
    record { text = text; after = held; gives = has held told; kept = read.told ∙ told; grew = gained }

pub began : (plan : Plan) (text : List ℕ) (before now : FilesSeen) (sink_before sink_now : SinkSeen) → Has plan before text → OnlyRead before now → (k : ℕ) × Gained (take k text) sink_before sink_now → Began plan before now sink_before sink_now
began plan text before now sink_before sink_now has read (k, gained) held told =
    record { text = text; after = held; gives = has held told; kept = read.told ∙ told; part = k; grew = gained }
