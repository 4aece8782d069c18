-- `quotes SETTINGS`: the quotes that a test over the settings takes. Own.
use Rattle.std.specs.Prelude.{◌≡◌, ℕ, List}
use Rattle.market_data.specs.Markets.{Listing, quotes}
use Rattle.report.specs.Quotes.{AreQuoteLines}
use Rattle.settings_file.specs.declared.keys.Expert.TheVariants.{NotNeeded}
use Rattle.tester_answer.specs.declared.status.Status.TheVariants.{Done}
use Rattle.tester_answer.specs.Answer.{Ending, Plan, Ends}
use Rattle.tester_market.specs.Reading.{settings_plan, market_plan}

-- a line is written for each quote of a market; no file changes
abbrev pub writes_quotes : Listing → Ending
writes_quotes market held status text after =
    (status ≡ Done) × AreQuoteLines market (quotes market) text × (after ≡ held)

-- the settings are read and judged, which need no expert, and then the price file of each symbol
abbrev pub quotes_plan : List ℕ → Plan
quotes_plan name =
    settings_plan NotNeeded name (λ file. market_plan file.settings (λ market. Ends (writes_quotes market)))
