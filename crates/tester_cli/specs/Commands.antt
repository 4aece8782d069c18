-- What each command does. Own.
use Rattle.std.specs.Prelude.{◌≡◌, ℕ, Bool, true, false, map, String, List, [], ◌∷◌, ◌++◌, Option, Some, None, Ok, Err, codes, if◌then◌else◌}
use Rattle.std.specs.Str.{bytes_eq}
use Rattle.std.specs.String.{string_bytes}
use Rattle.std.specs.declared.string.String.{String}
use Rattle.mql_meaning.specs.declared.tree.Checked.{Checked}
use Rattle.market_types.specs.declared.bar.Bar.{Bar}
use Rattle.market_types.specs.declared.quote.Quote.{Quote}
use Rattle.market_types.specs.declared.period.Period.TheVariants.{M1}
use Rattle.price_rows.specs.Files.{Judged, bars_of_file}
use Rattle.market_data.specs.Quotes.{bar_quotes, heard}
use Rattle.tester_pass.specs.declared.result.PassResult.{PassResult}
use Rattle.tester_pass.specs.Pass.{Passes, of_source}
use Rattle.tester_cli.specs.declared.run.Command.{Command}
use Rattle.tester_cli.specs.declared.run.Command.TheVariants.{Quick, Check, Quotes}
use Rattle.tester_answer.specs.declared.status.Status.TheVariants.{Done, Usage, Prices}
use Rattle.tester_answer.specs.Answer.{Ending, Plan, Reads, Ends, refuses}
use Rattle.mql_tree.specs.declared.token.Tree.{Tree}
use Rattle.mql_preproc.specs.declared.source.Source.{Source}
use Rattle.tester_sources.specs.Reading.{Tokens, program_plan}
use Rattle.tester_sources.specs.Judging.{tree_plan}
use Rattle.tester_sources.specs.Rules.{with_rules, program_refused}
use Rattle.tester_program.specs.Programs.{runs, with_run}
use Rattle.tester_market.specs.Reading.{price_limit}
use Rattle.tester_market.specs.Quotes.{quotes_plan}
use Rattle.tester_cli.specs.Report.{IsReport}

-- the bars of a file, or its first row that breaks a rule, with the first rule that it breaks
abbrev pub with_bars : List ℕ → Judged Bar → (List Bar → Plan) → Plan
with_bars name (Err fault) next = refuses (Prices name fault.0 fault.1)
with_bars name (Ok bars) next = next bars

-- the quotes of bars at opening prices of the period M1, for a symbol of 5 digits with the spread of the rows
abbrev pub opening_quotes : List Bar → List Quote
opening_quotes bars = heard (Some M1) None (bar_quotes None 5 bars)

-- the report of a pass over the bars at opening prices, for a symbol of 5 digits, with the inputs as the
-- source presets them; no file changes
pub record Reports (checked : Checked) (bars : List Bar) (text : List ℕ) : Type 0 where
  pub result : PassResult
  pub passes : Passes (of_source checked) [] (opening_quotes bars) result
  pub is_report : IsReport result text

abbrev pub reports : Checked → List Bar → Ending
reports checked bars held status text after = (status ≡ Done) × Reports checked bars text × (after ≡ held)

-- `quick EXPERT BARS`: the expert is read and judged before the bars
abbrev pub quick_bars : List ℕ → Checked → Plan
quick_bars bars checked =
    Reads bars price_limit (λ bytes. with_bars bars (bars_of_file bytes)
    (λ rows. Ends (reports checked rows)))

abbrev pub quick_tree : List ℕ → List ℕ → List Source → Tokens → Tree → Plan
quick_tree expert bars sources tokens tree =
    with_run expert sources tokens (quick_bars bars) (runs sources tokens tree)

abbrev pub quick_rest : List ℕ → List ℕ → List Source → Tokens → Plan
quick_rest expert bars = tree_plan expert (quick_tree expert bars)

abbrev pub quick_plan : List ℕ → List ℕ → Plan
quick_plan expert bars = program_plan expert (quick_rest expert bars)

-- a text is written; no file changes
abbrev pub says : List ℕ → Ending
says words held status text after = (status ≡ Done) × (text ≡ words) × (after ≡ held)

-- `check SOURCE`: the stages that are built so far find no fault
abbrev pub check_tree : List ℕ → List Source → Tokens → Tree → Plan
check_tree entry sources tokens tree =
    with_rules entry sources tokens (Ends (says (codes "ok" ++ 10 ∷ []))) (program_refused sources tokens tree)

abbrev pub check_plan : List ℕ → Plan
check_plan entry = program_plan entry (tree_plan entry (check_tree entry))

-- the command of a word
unfoldable pub command_of : List ℕ → Option Command
command_of word = if bytes_eq word (codes "quick") then Some Quick
    else if bytes_eq word (codes "check") then Some Check
    else if bytes_eq word (codes "quotes") then Some Quotes else None

-- what a command does with one name, and with two
abbrev pub with_one : Command → List ℕ → Plan
with_one Quick name = refuses (Usage 3)
with_one Check source = check_plan source
with_one Quotes settings = quotes_plan settings

abbrev pub with_two : Command → List ℕ → List ℕ → Plan
with_two Quick expert bars = quick_plan expert bars
with_two Check one other = refuses (Usage 3)
with_two Quotes one other = refuses (Usage 3)

-- what a command does with these names: a wrong number of them breaks usage rule 3
abbrev pub plan_of_names : Command → List (List ℕ) → Plan
plan_of_names command [] = refuses (Usage 3)
plan_of_names command (name ∷ []) = with_one command name
plan_of_names command (one ∷ other ∷ []) = with_two command one other
plan_of_names command (one ∷ other ∷ more ∷ most) = refuses (Usage 3)

abbrev pub plan_of_command : Option Command → List (List ℕ) → Plan
plan_of_command None names = refuses (Usage 2)
plan_of_command (Some command) names = plan_of_names command names

-- what the words of a command line do: no command or an unknown one breaks usage rule 2
abbrev pub plan_of : List (List ℕ) → Plan
plan_of [] = refuses (Usage 2)
plan_of (word ∷ names) = plan_of_command (command_of word) names

-- the words of a command line as bytes
abbrev pub words_of : {A : Type 0} → List (String A) → List (List ℕ)
words_of words = map string_bytes words
