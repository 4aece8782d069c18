-- The settings of a document, or the first rule that it breaks with the key that is told (MetaTrader 5 Help,
-- Strategy Tester: settings; form own).
use Rattle.std.specs.Prelude.{◌≡◌, ◌⊎◌, ℕ, List, [], codes, Option, Some, None, pos, Result, Ok, Err, ⊤, false}
use Rattle.toml.specs.Data.{Members, get_member}
use Rattle.market_types.specs.declared.mode.Mode.TheVariants.{Ohlc}
use Rattle.market_types.specs.declared.period.Period.TheVariants.{M1}
use Rattle.market_types.specs.declared.symbol_spec.SymbolSpec.{SymbolSpec}
use Rattle.tester_settings.specs.declared.settings.Account.TheVariants.{Netting}
use Rattle.tester_settings.specs.declared.input.Assignment.{Assignment}
use Rattle.tester_settings.specs.declared.input.InputRange.{InputRange}
use Rattle.settings_file.specs.declared.keys.Expert.{Expert}
use Rattle.settings_file.specs.declared.fault.SettingsFault.{SettingsFault}
use Rattle.settings_file.specs.declared.fault.SettingsFault.TheVariants as fault
use Rattle.settings_file.specs.declared.settings.Run.{Run}
use Rattle.settings_file.specs.declared.settings.Funds.{Funds}
use Rattle.settings_file.specs.declared.settings.Bounds.{Bounds}
use Rattle.settings_file.specs.declared.settings.SettingsFile.{SettingsFile}
use Rattle.settings_file.specs.Document.{IsDocument, IsNoDocument}
use Rattle.settings_file.specs.Keys.{word_key, mode_of, period_of, account_of, expert_key, currency_key, whole_key}
use Rattle.settings_file.specs.Amounts.{money_key}
use Rattle.settings_file.specs.Faults.{Broken, at_key, then_with}
use Rattle.settings_file.specs.Entries.{inputs_in, optimise_in}
use Rattle.settings_file.specs.Symbols.{symbols_in, judged}
use Rattle.settings_file.specs.Unknown.{least, unknown_names}

-- what is run, over which quotes
unfoldable pub run_in : Expert → Members → Result Run Broken
run_in need document =
    at_key (codes "expert") (expert_key need (get_member (codes "expert") document)) (λ expert.
    at_key (codes "mode") (word_key Ohlc mode_of (get_member (codes "mode") document)) (λ mode.
    at_key (codes "period") (word_key M1 period_of (get_member (codes "period") document)) (λ period.
    at_key (codes "account") (word_key Netting account_of (get_member (codes "account") document)) (λ account.
    Ok (record { expert = expert; mode = mode; period = period; account = account })))))

-- the account's money: 10000.00 where nothing is said, and from 0.01 to 1000000000
unfoldable pub funds_in : Members → Result Funds Broken
funds_in document =
    at_key (codes "deposit")
    (money_key (pos 1000000) (pos 1) 1000000000 (get_member (codes "deposit") document)) (λ deposit.
    at_key (codes "currency") (currency_key (get_member (codes "currency") document)) (λ currency.
    at_key (codes "leverage") (whole_key 100 1 10000 (get_member (codes "leverage") document)) (λ leverage.
    at_key (codes "stop_out") (whole_key 50 0 100 (get_member (codes "stop_out") document)) (λ stop_out.
    Ok (record { deposit = deposit; currency = currency; leverage = leverage; stop_out = stop_out })))))

-- the bound of a pass, and what its random numbers begin from
unfoldable pub bounds_in : Members → Result Bounds Broken
bounds_in document =
    at_key (codes "steps") (whole_key 50000000 1 1000000000 (get_member (codes "steps") document)) (λ steps.
    at_key (codes "rand_start")
    (whole_key 1 0 4294967295 (get_member (codes "rand_start") document)) (λ rand_start.
    Ok (record { steps = steps; rand_start = rand_start })))

-- settings of their parts
abbrev pub of_parts :
    Run → Funds → Bounds → List Assignment → List InputRange → List SymbolSpec → SettingsFile
of_parts run funds bounds inputs optimise symbols =
    record {
      settings = record {
        mode = run.mode;
        period = run.period;
        account = run.account;
        deposit = funds.deposit;
        currency = funds.currency;
        leverage = funds.leverage;
        stop_out = funds.stop_out;
        steps = bounds.steps;
        rand_start = bounds.rand_start;
        symbols = symbols;
        study = false;
      };
      expert = run.expert;
      inputs = inputs;
      optimise = optimise;
    }

-- the settings of a document without unknown keys: the keys in their order, then the rules over all symbols
unfoldable pub settings_in : Expert → Members → Result SettingsFile Broken
settings_in need document =
    then_with (run_in need document) (λ run.
    then_with (funds_in document) (λ funds.
    then_with (bounds_in document) (λ bounds.
    then_with (inputs_in document) (λ inputs.
    then_with (optimise_in document) (λ optimise.
    then_with (symbols_in document) (λ found.
    then_with (judged found) (λ symbols.
    Ok (of_parts run funds bounds inputs optimise symbols))))))))

-- the settings where no key is unknown, else the first unknown key
abbrev pub unless_unknown : Option (List ℕ) → Result SettingsFile Broken → Result SettingsFile Broken
unless_unknown (Some key) settings = Err (2, key)
unless_unknown None settings = settings

-- the settings of a document
unfoldable pub settings_of : Expert → Members → Result SettingsFile Broken
settings_of need document = unless_unknown (least (unknown_names document)) (settings_in need document)

-- what the bytes of a settings file are: the settings of their document, or a broken rule, which is rule 1
-- for bytes that are no TOML
abbrev pub AreSettingsOf : Expert → List ℕ → Result SettingsFile Broken → Type 0
AreSettingsOf need bytes answer =
    ((document : Members) × IsDocument bytes document × (answer ≡ settings_of need document))
    ⊎ ((answer ≡ Err (1, [])) × IsNoDocument bytes)

-- the program's answer is what the bytes are; want of memory alone is free
abbrev pub Answers : Expert → List ℕ → Result SettingsFile SettingsFault → Type 0
Answers need bytes (Ok file) = AreSettingsOf need bytes (Ok file)
Answers need bytes (Err (fault.Rule rule key)) = AreSettingsOf need bytes (Err (rule, key))
Answers need bytes (Err fault.OutOfMemory) = ⊤
