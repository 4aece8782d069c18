-- The settings file, and then the price file of each of its symbols, are read and judged in turn. Own.
use Rattle.std.specs.Prelude.{◌≡◌, ℕ, List, [], ◌∷◌, ◌++◌, Option, Result, Ok, Err}
use Rattle.market_types.specs.declared.mode.Mode.{Mode}
use Rattle.market_types.specs.declared.mode.Mode.TheVariants as mode
use Rattle.market_types.specs.declared.rows.Rows.{Rows}
use Rattle.market_types.specs.declared.rows.Rows.TheVariants as rows
use Rattle.market_types.specs.declared.symbol_spec.SymbolSpec.{SymbolSpec}
use Rattle.price_rows.specs.Files.{bars_of_file, ticks_of_file}
use Rattle.price_rows.specs.declared.row_fault.RowFault.{RowFault}
use Rattle.price_rows.specs.declared.row_fault.RowFault.TheVariants as fault
use Rattle.market_data.specs.declared.market.Listed.{Listed}
use Rattle.market_data.specs.Markets.{Listing}
use Rattle.tester_settings.specs.declared.settings.Settings.{Settings}
use Rattle.settings_file.specs.declared.keys.Expert.{Expert}
use Rattle.settings_file.specs.declared.settings.SettingsFile.{SettingsFile}
use Rattle.settings_file.specs.Faults.{Broken}
use Rattle.settings_file.specs.Settings.{AreSettingsOf}
use Rattle.tester_io.specs.Outside.{Contents}
use Rattle.tester_answer.specs.declared.status.Status.{Status}
use Rattle.tester_answer.specs.declared.status.Status.TheVariants as status
use Rattle.tester_answer.specs.Answer.{Plan, Reads, Finds, refuses}
use Rattle.tester_answer.specs.Clauses.{IsReading}

-- the most bytes of a settings file, 1 MiB, and of a price file, 512 MiB
abbrev pub settings_limit : ℕ
settings_limit = 1048576

abbrev pub price_limit : ℕ
price_limit = 536870912

-- goes on with settings, or refuses them by the rule that they break
abbrev pub with_settings : Result SettingsFile Broken → (SettingsFile → Plan) → Plan
with_settings (Ok file) next = next file
with_settings (Err broken) next = refuses (status.Settings broken.0 broken.1)

-- the settings file is read and judged
abbrev pub settings_plan : Expert → List ℕ → (SettingsFile → Plan) → Plan
settings_plan need name next =
    Reads name settings_limit
    (λ bytes. Finds (Result SettingsFile Broken) (AreSettingsOf need bytes)
    (λ answer. with_settings answer next))

abbrev pub as_rows : {R : Type 0} → (List R → Rows) → Result (List R) (ℕ × ℕ) → Result Rows (ℕ × ℕ)
as_rows kind (Ok found) = Ok (kind found)
as_rows kind (Err fault) = Err fault

-- the rows of a price file, as a mode needs them, or the row that breaks a rule and that rule
abbrev pub rows_of : Mode → List ℕ → Result Rows (ℕ × ℕ)
rows_of mode.Ticks bytes = as_rows rows.Ticks (ticks_of_file bytes)
rows_of mode.Ohlc bytes = as_rows rows.Bars (bars_of_file bytes)
rows_of mode.Opening bytes = as_rows rows.Bars (bars_of_file bytes)

-- goes on with rows, or refuses the file by the first row that breaks a rule
abbrev pub with_rows : List ℕ → Result Rows (ℕ × ℕ) → (Rows → Plan) → Plan
with_rows name (Ok found) next = next found
with_rows name (Err fault) next = refuses (status.Prices name fault.0 fault.1)

-- a price file is read and judged
abbrev pub rows_plan : Mode → List ℕ → (Rows → Plan) → Plan
rows_plan mode name next = Reads name price_limit (λ bytes. with_rows name (rows_of mode bytes) next)

-- the symbols that are left are read one after another, behind those that were
abbrev pub listed_plan : Mode → List Listed → List SymbolSpec → (List Listed → Plan) → Plan
listed_plan mode listed [] next = next listed
listed_plan mode listed (spec ∷ more) next =
    rows_plan mode spec.file
    (λ found. listed_plan mode (listed ++ record { spec = spec; rows = found } ∷ []) more next)

-- the market of settings
abbrev pub market_plan : Settings → (Listing → Plan) → Plan
market_plan settings next =
    listed_plan settings.mode [] settings.symbols
    (λ listed. next (record { mode = settings.mode; period = settings.period; listed = listed }))

-- a settings file was read and judged
pub record HasSettings (need : Expert) (name : List ℕ) (told : Option Contents)
    (file : SettingsFile) : Type 0 where
  pub bytes : List ℕ
  pub reading : IsReading name settings_limit told bytes
  pub are : AreSettingsOf need bytes (Ok file)

-- a price file was read and judged
pub record HasRows (mode : Mode) (name : List ℕ) (told : Option Contents) (found : Rows) : Type 0 where
  pub bytes : List ℕ
  pub reading : IsReading name price_limit told bytes
  pub are : rows_of mode bytes ≡ Ok found

-- the status that refuses a settings file
abbrev pub SettingsStatus : Expert → List ℕ → Status → Type 0
SettingsStatus need bytes (status.Settings rule key) = AreSettingsOf need bytes (Err (rule, key))
SettingsStatus need bytes status.OutOfMemory = Unit {0}
SettingsStatus need bytes other = ⊥

-- the status that refuses a price file
abbrev pub RowsStatus : Mode → List ℕ → List ℕ → Status → Type 0
RowsStatus mode name bytes (status.Prices file row rule) =
    (file ≡ name) × (rows_of mode bytes ≡ Err (row, rule))
RowsStatus mode name bytes status.OutOfMemory = Unit {0}
RowsStatus mode name bytes other = ⊥

-- the status that tells a fault of the rows of a file of that name
abbrev pub row_status : List ℕ → RowFault → Status
row_status name (fault.Rule row rule) = status.Prices name row rule
row_status name fault.OutOfMemory = status.OutOfMemory

-- the price files of settings were read and judged: those of their one symbol
pub record HasMarket (settings : Settings) (told : Option Contents) (market : Listing) : Type 0 where
  pub spec : SymbolSpec
  pub only : settings.symbols ≡ spec ∷ []
  pub found : Rows
  pub has_rows : HasRows settings.mode spec.file told found
  pub is : market ≡ record {
    mode = settings.mode;
    period = settings.period;
    listed =
        record { spec = spec; rows = found } ∷ [];
  }
