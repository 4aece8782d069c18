-- How the answer of `quotes` is made.
use Rattle.std.proofs.Common.{◌≡◌, ℕ, List, Option, Some, refl, sym, subst, ◌∙◌}
use Rattle.tester_io.specs.Outside.{Contents, FilesSeen}
use Rattle.market_data.specs.Markets.{Listing, quotes}
use Rattle.report.specs.Quotes.{AreQuoteLines}
use Rattle.settings_file.specs.declared.keys.Expert.TheVariants.{NotNeeded}
use Rattle.settings_file.specs.declared.settings.SettingsFile.{SettingsFile}
use Rattle.tester_answer.specs.declared.status.Status.{Status}
use Rattle.tester_answer.specs.declared.status.Status.TheVariants.{Done}
use Rattle.tester_answer.specs.Answer.{Ends, OneEnd, never}
use Rattle.tester_answer.specs.Clauses.{OnlyRead, Has, Refused, Never}
use Rattle.tester_answer.proofs.PlanLemmas.{leads_on, refused_on, only_read_same}
use Rattle.report.proofs.OneText.{one_text}
use Rattle.tester_market.specs.Reading.{settings_plan, market_plan, HasSettings, HasMarket}
use Rattle.tester_market.specs.Quotes.{writes_quotes, quotes_plan}
use Rattle.tester_market.proofs.Plans.{settings_any, settings_lead, market_any, market_lead, settings_one, market_one}

-- the settings are refused
pub unset : (name : List ℕ) (before now : FilesSeen) (s : Status) → Refused Never (settings_plan NotNeeded name (λ file. never)) before now s → Refused Never (quotes_plan name) before now s
unset name before now s r =
    refused_on Never (quotes_plan name) (settings_plan NotNeeded name (λ file. never)) before before now s
    (settings_any NotNeeded name (λ file. market_plan file.settings (λ market. Ends (writes_quotes market))) before.told) (only_read_same before) r

-- the market is refused
pub unmarketed : (name : List ℕ) (file : SettingsFile) (before mid now : FilesSeen) (s : Status) → HasSettings NotNeeded name before.told file → OnlyRead before mid
    → Refused Never (market_plan file.settings (λ market. never)) mid now s → Refused Never (quotes_plan name) before now s
unmarketed name file before mid now s has only r =
    refused_on Never (quotes_plan name) (market_plan file.settings (λ market. never)) before mid now s
    (leads_on (quotes_plan name) (market_plan file.settings (λ market. Ends (writes_quotes market))) (market_plan file.settings (λ market. never)) before.told
    (settings_lead NotNeeded name (λ file. market_plan file.settings (λ market. Ends (writes_quotes market))) before.told file has)
    (market_any file.settings (λ market. Ends (writes_quotes market)) before.told))
    only r

-- the quotes are written
pub written : (name : List ℕ) (file : SettingsFile) (market : Listing) (before mid : FilesSeen) (text : List ℕ) → HasSettings NotNeeded name before.told file → OnlyRead before mid → HasMarket file.settings mid.told market
    → AreQuoteLines market (quotes market) text → Has (quotes_plan name) before text
written name file market before mid text has only has_market lines held is =
    (settings_lead NotNeeded name (λ file. market_plan file.settings (λ market. Ends (writes_quotes market))) before.told file has).gives held is Done text held
    ((market_lead file.settings (λ market. Ends (writes_quotes market)) before.told market (subst (λ (t : Option Contents). HasMarket file.settings t market) only.told has_market)).gives held is Done text held
    (refl, lines, refl))

writes_one : (market : Listing) → OneEnd (Ends (writes_quotes market))
writes_one market held s s' text text' after after' g g' = (g.0 ∙ sym g'.0, one_text market (quotes market) text text' g.1 g'.1, g.2 ∙ sym g'.2)

-- the plan of `quotes` has one end over given contents
pub quotes_one : (name : List ℕ) → OneEnd (quotes_plan name)
quotes_one name =
    settings_one NotNeeded name (λ file. market_plan file.settings (λ market. Ends (writes_quotes market)))
    (λ file. market_one file.settings (λ market. Ends (writes_quotes market)) writes_one)
