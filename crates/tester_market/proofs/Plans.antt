-- How the readings of settings and prices make the answer of a command.
use Rattle.std.proofs.Common.{◌≡◌, ℕ, List, [], ◌∷◌, ◌++◌, Option, Some, Result, Ok, Err, refl, sym, ap, subst, ◌∙◌, arith}
use Rattle.tester_io.specs.Outside.{Contents, FilesSeen}
use Rattle.market_types.specs.declared.mode.Mode.{Mode}
use Rattle.market_types.specs.declared.rows.Rows.{Rows}
use Rattle.market_types.specs.declared.symbol_spec.SymbolSpec.{SymbolSpec}
use Rattle.market_data.specs.declared.market.Listed.{Listed}
use Rattle.market_data.specs.Markets.{Listing}
use Rattle.tester_settings.specs.declared.settings.Settings.{Settings}
use Rattle.settings_file.specs.declared.keys.Expert.{Expert}
use Rattle.settings_file.specs.declared.settings.SettingsFile.{SettingsFile}
use Rattle.settings_file.specs.Faults.{Broken}
use Rattle.settings_file.specs.Settings.{AreSettingsOf}
use Rattle.settings_file.proofs.OneAnswer.{one_answer}
use Rattle.tester_answer.specs.declared.status.Status.{Status}
use Rattle.tester_answer.specs.declared.status.Status.TheVariants as status
use Rattle.tester_answer.specs.Answer.{Plan, Reads, Finds, Gives, OneEnd, refuses, never}
use Rattle.tester_answer.specs.Clauses.{OnlyRead, IsReading, ReadingRefused, Refused, Never}
use Rattle.tester_answer.proofs.PlanLemmas.{Leads, leads_same, leads_on, leads_reading, leads_finding, leads_never, leads_both_read, leads_both_find, refused_here, refused_on, only_read_same}
use Rattle.tester_answer.proofs.OneEnd.{refuses_one, reads_one, finds_one}
use Rattle.tester_market.specs.Reading.{settings_limit, price_limit, with_settings, settings_plan, rows_of, with_rows, rows_plan, listed_plan, market_plan, HasSettings, HasRows, HasMarket, SettingsStatus, RowsStatus}

with_any : (answer : Result SettingsFile Broken) (next : SettingsFile → Plan) (told : Option Contents) → Leads (with_settings answer next) (with_settings answer (λ file. never)) told
with_any (Ok file) next told = leads_never (next file) told
with_any (Err broken) next told = leads_same (refuses (status.Settings broken.0 broken.1)) told

-- what follows the settings may be anything
pub settings_any : (need : Expert) (name : List ℕ) (next : SettingsFile → Plan) (told : Option Contents) → Leads (settings_plan need name next) (settings_plan need name (λ file. never)) told
settings_any need name next told =
    leads_both_read name settings_limit (λ bytes. Finds (Result SettingsFile Broken) (AreSettingsOf need bytes) (λ answer. with_settings answer next))
    (λ bytes. Finds (Result SettingsFile Broken) (AreSettingsOf need bytes) (λ answer. with_settings answer (λ file. never))) told
    (λ bytes. leads_both_find (Result SettingsFile Broken) (AreSettingsOf need bytes) (λ answer. with_settings answer next) (λ answer. with_settings answer (λ file. never)) told (λ answer. with_any answer next told))

-- past what the bytes of the settings are
found_leads : (need : Expert) (name : List ℕ) (next : SettingsFile → Plan) (told : Option Contents) (bytes : List ℕ) (answer : Result SettingsFile Broken)
    → IsReading name settings_limit told bytes → AreSettingsOf need bytes answer → Leads (settings_plan need name next) (with_settings answer next) told
found_leads need name next told bytes answer r h =
    leads_on (settings_plan need name next) (Finds (Result SettingsFile Broken) (AreSettingsOf need bytes) (λ answer. with_settings answer next)) (with_settings answer next) told
    (leads_reading name settings_limit (λ bytes. Finds (Result SettingsFile Broken) (AreSettingsOf need bytes) (λ answer. with_settings answer next)) told bytes r)
    (leads_finding (Result SettingsFile Broken) (AreSettingsOf need bytes) (λ answer. with_settings answer next) told answer h)

-- past the settings
pub settings_lead : (need : Expert) (name : List ℕ) (next : SettingsFile → Plan) (told : Option Contents) (file : SettingsFile) → HasSettings need name told file → Leads (settings_plan need name next) (next file) told
settings_lead need name next told file h = found_leads need name next told h.bytes (Ok file) h.reading h.are

-- the reading of the settings is refused
pub settings_unread : (need : Expert) (name : List ℕ) (before now : FilesSeen) (s : Status) → ReadingRefused name settings_limit before now s → Refused Never (settings_plan need name (λ file. never)) before now s
settings_unread need name before now s r =
    refused_here Never name settings_limit (λ bytes. Finds (Result SettingsFile Broken) (AreSettingsOf need bytes) (λ answer. with_settings answer (λ file. never))) before now s r

-- the settings are refused
pub settings_refused : (need : Expert) (name bytes : List ℕ) (before now : FilesSeen) (s : Status) → IsReading name settings_limit before.told bytes → OnlyRead before now → SettingsStatus need bytes s
    → Refused Never (settings_plan need name (λ file. never)) before now s
settings_refused need name bytes before now (status.Settings rule key) r fell h =
    refused_on Never (settings_plan need name (λ file. never)) (refuses (status.Settings rule key)) before now now (status.Settings rule key)
    (found_leads need name (λ file. never) before.told bytes (Err (rule, key)) r h) fell (λ held is. (refl, refl, refl))
settings_refused need name bytes before now status.OutOfMemory r fell h = tt
settings_refused need name bytes before now status.Done r fell h = absurd h
settings_refused need name bytes before now (status.Usage rule) r fell h = absurd h
settings_refused need name bytes before now (status.Source given) r fell h = absurd h
settings_refused need name bytes before now (status.Prices file row rule) r fell h = absurd h
settings_refused need name bytes before now (status.CodeFile rule place) r fell h = absurd h
settings_refused need name bytes before now (status.Grid rule input) r fell h = absurd h
settings_refused need name bytes before now (status.Absent which) r fell h = absurd h
settings_refused need name bytes before now (status.ReadFault which) r fell h = absurd h
settings_refused need name bytes before now status.WriteFault r fell h = absurd h
settings_refused need name bytes before now (status.TooLarge which) r fell h = absurd h

rows_any_with : (name : List ℕ) (answer : Result Rows (ℕ × ℕ)) (next : Rows → Plan) (told : Option Contents) → Leads (with_rows name answer next) (with_rows name answer (λ found. never)) told
rows_any_with name (Ok found) next told = leads_never (next found) told
rows_any_with name (Err fault) next told = leads_same (refuses (status.Prices name fault.0 fault.1)) told

-- what follows a price file may be anything
pub rows_any : (mode : Mode) (name : List ℕ) (next : Rows → Plan) (told : Option Contents) → Leads (rows_plan mode name next) (rows_plan mode name (λ found. never)) told
rows_any mode name next told =
    leads_both_read name price_limit (λ bytes. with_rows name (rows_of mode bytes) next) (λ bytes. with_rows name (rows_of mode bytes) (λ found. never)) told
    (λ bytes. rows_any_with name (rows_of mode bytes) next told)

judged_leads : (mode : Mode) (name : List ℕ) (next : Rows → Plan) (told : Option Contents) (bytes : List ℕ) (answer : Result Rows (ℕ × ℕ)) → IsReading name price_limit told bytes → rows_of mode bytes ≡ answer
    → Leads (rows_plan mode name next) (with_rows name answer next) told
judged_leads mode name next told bytes answer r e =
    leads_on (rows_plan mode name next) (with_rows name (rows_of mode bytes) next) (with_rows name answer next) told
    (leads_reading name price_limit (λ bytes. with_rows name (rows_of mode bytes) next) told bytes r)
    (subst (λ x. Leads (with_rows name (rows_of mode bytes) next) (with_rows name x next) told) e (leads_same (with_rows name (rows_of mode bytes) next) told))

-- past a price file
pub rows_lead : (mode : Mode) (name : List ℕ) (next : Rows → Plan) (told : Option Contents) (found : Rows) → HasRows mode name told found → Leads (rows_plan mode name next) (next found) told
rows_lead mode name next told found h = judged_leads mode name next told h.bytes (Ok found) h.reading h.are

-- the reading of a price file is refused
pub rows_unread : (mode : Mode) (name : List ℕ) (before now : FilesSeen) (s : Status) → ReadingRefused name price_limit before now s → Refused Never (rows_plan mode name (λ found. never)) before now s
rows_unread mode name before now s r = refused_here Never name price_limit (λ bytes. with_rows name (rows_of mode bytes) (λ found. never)) before now s r

-- the rows are refused
pub rows_refused : (mode : Mode) (name bytes : List ℕ) (before now : FilesSeen) (s : Status) → IsReading name price_limit before.told bytes → OnlyRead before now → RowsStatus mode name bytes s
    → Refused Never (rows_plan mode name (λ found. never)) before now s
rows_refused mode name bytes before now (status.Prices file row rule) r fell (named, e) =
    refused_on Never (rows_plan mode name (λ found. never)) (refuses (status.Prices name row rule)) before now now (status.Prices file row rule)
    (judged_leads mode name (λ found. never) before.told bytes (Err (row, rule)) r e) fell (λ held is. (ap (λ (n : List ℕ). status.Prices n row rule) named, refl, refl))
rows_refused mode name bytes before now status.OutOfMemory r fell h = tt
rows_refused mode name bytes before now status.Done r fell h = absurd h
rows_refused mode name bytes before now (status.Usage rule) r fell h = absurd h
rows_refused mode name bytes before now (status.Source given) r fell h = absurd h
rows_refused mode name bytes before now (status.Settings rule key) r fell h = absurd h
rows_refused mode name bytes before now (status.CodeFile rule place) r fell h = absurd h
rows_refused mode name bytes before now (status.Grid rule input) r fell h = absurd h
rows_refused mode name bytes before now (status.Absent which) r fell h = absurd h
rows_refused mode name bytes before now (status.ReadFault which) r fell h = absurd h
rows_refused mode name bytes before now status.WriteFault r fell h = absurd h
rows_refused mode name bytes before now (status.TooLarge which) r fell h = absurd h

with_settings_one : (answer : Result SettingsFile Broken) (next : SettingsFile → Plan) → ((file : SettingsFile) → OneEnd (next file)) → OneEnd (with_settings answer next)
with_settings_one (Ok file) next each = each file
with_settings_one (Err broken) next each = refuses_one (status.Settings broken.0 broken.1)

-- a plan over settings has one status where what follows has
pub settings_one : (need : Expert) (name : List ℕ) (next : SettingsFile → Plan) → ((file : SettingsFile) → OneEnd (next file)) → OneEnd (settings_plan need name next)
settings_one need name next each =
    reads_one name settings_limit (λ bytes. Finds (Result SettingsFile Broken) (AreSettingsOf need bytes) (λ answer. with_settings answer next))
    (λ bytes. finds_one (Result SettingsFile Broken) (AreSettingsOf need bytes) (λ answer. with_settings answer next) (one_answer need bytes) (λ answer. with_settings_one answer next each))

with_rows_one : (name : List ℕ) (answer : Result Rows (ℕ × ℕ)) (next : Rows → Plan) → ((found : Rows) → OneEnd (next found)) → OneEnd (with_rows name answer next)
with_rows_one name (Ok found) next each = each found
with_rows_one name (Err fault) next each = refuses_one (status.Prices name fault.0 fault.1)

listed_one : (mode : Mode) (listed : List Listed) (specs : List SymbolSpec) (next : List Listed → Plan) → ((all : List Listed) → OneEnd (next all)) → OneEnd (listed_plan mode listed specs next)
listed_one mode listed [] next each = each listed
listed_one mode listed (spec ∷ more) next each =
    reads_one spec.file price_limit (λ bytes. with_rows spec.file (rows_of mode bytes) (λ found. listed_plan mode (listed ++ record { spec = spec; rows = found } ∷ []) more next))
    (λ bytes. with_rows_one spec.file (rows_of mode bytes) (λ found. listed_plan mode (listed ++ record { spec = spec; rows = found } ∷ []) more next)
    (λ found. listed_one mode (listed ++ record { spec = spec; rows = found } ∷ []) more next each))

pub market_one : (settings : Settings) (next : Listing → Plan) → ((market : Listing) → OneEnd (next market)) → OneEnd (market_plan settings next)
market_one settings next each =
    listed_one settings.mode [] settings.symbols (λ listed. next (record { mode = settings.mode; period = settings.period; listed = listed }))
    (λ listed. each (record { mode = settings.mode; period = settings.period; listed = listed }))

with_rows_both : (name : List ℕ) (answer : Result Rows (ℕ × ℕ)) (next rest : Rows → Plan) (told : Option Contents) → ((found : Rows) → Leads (next found) (rest found) told) → Leads (with_rows name answer next) (with_rows name answer rest) told
with_rows_both name (Ok found) next rest told each = each found
with_rows_both name (Err fault) next rest told each = leads_same (refuses (status.Prices name fault.0 fault.1)) told

listed_any : (mode : Mode) (listed : List Listed) (specs : List SymbolSpec) (next : List Listed → Plan) (told : Option Contents) → Leads (listed_plan mode listed specs next) (listed_plan mode listed specs (λ all. never)) told
listed_any mode listed [] next told = leads_never (next listed) told
listed_any mode listed (spec ∷ more) next told =
    leads_both_read spec.file price_limit (λ bytes. with_rows spec.file (rows_of mode bytes) (λ found. listed_plan mode (listed ++ record { spec = spec; rows = found } ∷ []) more next))
    (λ bytes. with_rows spec.file (rows_of mode bytes) (λ found. listed_plan mode (listed ++ record { spec = spec; rows = found } ∷ []) more (λ all. never))) told
    (λ bytes. with_rows_both spec.file (rows_of mode bytes) (λ found. listed_plan mode (listed ++ record { spec = spec; rows = found } ∷ []) more next)
    (λ found. listed_plan mode (listed ++ record { spec = spec; rows = found } ∷ []) more (λ all. never)) told
    (λ found. listed_any mode (listed ++ record { spec = spec; rows = found } ∷ []) more next told))

-- what follows the market may be anything
pub market_any : (settings : Settings) (next : Listing → Plan) (told : Option Contents) → Leads (market_plan settings next) (market_plan settings (λ market. never)) told
market_any settings next told = listed_any settings.mode [] settings.symbols (λ listed. next (record { mode = settings.mode; period = settings.period; listed = listed })) told

-- past the market
pub market_lead : (settings : Settings) (next : Listing → Plan) (told : Option Contents) (market : Listing) → HasMarket settings told market → Leads (market_plan settings next) (next market) told
market_lead settings next told market h =
    let k : List Listed → Plan = λ (listed : List Listed). next (record { mode = settings.mode; period = settings.period; listed = listed }) in
    let here : Leads (listed_plan settings.mode [] (h.spec ∷ []) k) (k (record { spec = h.spec; rows = h.found } ∷ [])) told =
    rows_lead settings.mode h.spec.file (λ found. k (record { spec = h.spec; rows = found } ∷ [])) told h.found h.has_rows in
    subst (λ (m : Listing). Leads (market_plan settings next) (next m) told) (sym h.is)
    (subst (λ (specs : List SymbolSpec). Leads (listed_plan settings.mode [] specs k) (k (record { spec = h.spec; rows = h.found } ∷ [])) told) (sym h.only) here)

-- the price file of the one symbol is refused
pub market_refused : (settings : Settings) (spec : SymbolSpec) (before now : FilesSeen) (s : Status) → settings.symbols ≡ spec ∷ [] → Refused Never (rows_plan settings.mode spec.file (λ found. never)) before now s
    → Refused Never (market_plan settings (λ market. never)) before now s
market_refused settings spec before now s only r =
    subst (λ (specs : List SymbolSpec). Refused Never (listed_plan settings.mode [] specs (λ listed. never)) before now s) (sym only)
    (refused_on Never (listed_plan settings.mode [] (spec ∷ []) (λ listed. never)) (rows_plan settings.mode spec.file (λ found. never)) before before now s
    (rows_any settings.mode spec.file (λ found. never) before.told) (only_read_same before) r)
