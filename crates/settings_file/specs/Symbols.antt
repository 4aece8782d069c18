-- The symbols of a settings file: their keys in order, and the rules over all of them (MQL5 Reference, Symbol
-- Properties).
use Rattle.std.specs.Prelude.{ℕ, ◌+◌, ◌%◌, Bool, true, false, not, ◌&&◌, ◌||◌, ◌==◌, nat_le, if◌then◌else◌, List, [], ◌∷◌, ◌++◌, length, Option, Some, None, ℤ, pos, neg_ℤ, int_le, unsigned_abs, codes, Result, Ok, Err}
use Rattle.std.specs.Str.{bytes_eq}
use Rattle.toml.specs.Data.{Data, Items, no_items, item, Members, get_member}
use Rattle.market_types.specs.declared.symbol_spec.SymbolSpec.{SymbolSpec}
use Rattle.settings_file.specs.declared.symbols.Head.{Head}
use Rattle.settings_file.specs.declared.symbols.Volumes.{Volumes}
use Rattle.settings_file.specs.declared.symbols.Costs.{Costs}
use Rattle.settings_file.specs.Keys.{whole_key, whole_if_any, name_key, text_key, list_key, table_data}
use Rattle.settings_file.specs.Amounts.{money_key, volume_key}
use Rattle.settings_file.specs.Faults.{Broken, at_key, then_with}
use Rattle.settings_file.specs.Entries.{before}
use Rattle.settings_file.specs.Names.{symbol_name, symbol_prefix}

-- what a symbol is called, where its prices are, and what they and a lot count in
unfoldable pub head_in : List ℕ → Members → Result Head Broken
head_in prefix members =
    at_key (prefix ++ codes "name") (name_key (get_member (codes "name") members)) (λ name.
    at_key (prefix ++ codes "data") (text_key (get_member (codes "data") members)) (λ file.
    at_key (prefix ++ codes "digits") (whole_key 5 0 8 (get_member (codes "digits") members)) (λ digits.
    at_key (prefix ++ codes "contract")
    (whole_key 100000 1 1000000 (get_member (codes "contract") members)) (λ contract.
    Ok (record { name = name; file = file; digits = digits; contract = contract })))))

-- a volume of a symbol
abbrev pub volume_at : List ℕ → List ℕ → ℤ → Members → Result ℤ Broken
volume_at prefix key preset members = at_key (prefix ++ key) (volume_key preset (get_member key members)) Ok

-- volumes in units of 10^-8: 0.01, 100 and 0.01 where nothing is said
unfoldable pub volumes_in : List ℕ → Members → Result Volumes Broken
volumes_in prefix members =
    then_with (volume_at prefix (codes "volume_min") (pos 1000000) members) (λ min.
    then_with (volume_at prefix (codes "volume_max") (pos 10000000000) members) (λ max.
    then_with (volume_at prefix (codes "volume_step") (pos 1000000) members) (λ step.
    Ok (record { min = min; max = max; step = step }))))

-- distances in points, and amounts in hundredths
unfoldable pub costs_in : List ℕ → Members → Result Costs Broken
costs_in prefix members =
    at_key (prefix ++ codes "stops_level")
    (whole_key 0 0 1000000 (get_member (codes "stops_level") members)) (λ stops_level.
    at_key (prefix ++ codes "spread")
    (whole_if_any 0 1000000 (get_member (codes "spread") members)) (λ spread.
    at_key (prefix ++ codes "commission")
    (money_key (pos 0) (pos 0) 1000000 (get_member (codes "commission") members)) (λ commission.
    at_key (prefix ++ codes "swap_long")
    (money_key (pos 0) (neg_ℤ (pos 100000000)) 1000000 (get_member (codes "swap_long") members)) (λ swap_long.
    at_key (prefix ++ codes "swap_short")
    (money_key (pos 0) (neg_ℤ (pos 100000000)) 1000000 (get_member (codes "swap_short") members))
    (λ swap_short.
    at_key (prefix ++ codes "swap_day") (whole_key 3 0 6 (get_member (codes "swap_day") members)) (λ swap_day.
    Ok (record {
      stops_level = stops_level;
      spread = spread;
      commission = commission;
      swap_long = swap_long;
      swap_short = swap_short;
      swap_day = swap_day;
    })))))))

abbrev pub spec_of : Head → Volumes → Costs → SymbolSpec
spec_of head volumes costs =
    record {
      name = head.name;
      file = head.file;
      digits = head.digits;
      contract = head.contract;
      volume_min = volumes.min;
      volume_max = volumes.max;
      volume_step = volumes.step;
      stops_level = costs.stops_level;
      spread = costs.spread;
      commission = costs.commission;
      swap_long = costs.swap_long;
      swap_short = costs.swap_short;
      swap_day = costs.swap_day;
    }

-- a symbol of a table
abbrev pub symbol_in : List ℕ → Members → Result SymbolSpec Broken
symbol_in prefix members =
    then_with (head_in prefix members) (λ head.
    then_with (volumes_in prefix members) (λ volumes.
    then_with (costs_in prefix members) (λ costs.
    Ok (spec_of head volumes costs))))

-- the symbol at a place of the list
abbrev pub symbol_of : ℕ → Data → Result SymbolSpec Broken
symbol_of i d = at_key (symbol_name i) (table_data d) (symbol_in (symbol_prefix i))

-- the symbols from the i-th on
unfoldable pub symbols_from : ℕ → Items → Result (List SymbolSpec) Broken
symbols_from i no_items = Ok []
symbols_from i (item d more) = then_with (symbol_of i d) (λ symbol. before symbol (symbols_from (i + 1) more))

-- what a document has under `symbol`
abbrev pub symbols_in : Members → Result (List SymbolSpec) Broken
symbols_in document =
    at_key (codes "symbol") (list_key (get_member (codes "symbol") document)) (symbols_from 0)

-- a test has one symbol
abbrev pub is_number_of_symbols : ℕ → Bool
is_number_of_symbols n = nat_le 1 n && nat_le n 1

-- one of the symbols has this name
unfoldable pub has_name : List ℕ → List SymbolSpec → Bool
has_name name [] = false
has_name name (symbol ∷ more) = if bytes_eq symbol.name name then true else has_name name more

-- the first of the symbols from the i-th on that has the name of an earlier one
unfoldable pub double_from : ℕ → List SymbolSpec → List SymbolSpec → Option ℕ
double_from i earlier [] = None
double_from i earlier (symbol ∷ more) =
    if has_name symbol.name earlier then Some i else double_from (i + 1) (earlier ++ symbol ∷ []) more

-- a volume is so many steps
abbrev pub is_multiple : ℤ → ℤ → Bool
is_multiple volume step = unsigned_abs volume % unsigned_abs step == 0

-- the key of a symbol whose volumes are at odds: a minimum above the maximum, or one of the two that is no
-- multiple of the step
abbrev pub volumes_at_odds : SymbolSpec → Option (List ℕ)
volumes_at_odds symbol =
    if not (int_le symbol.volume_min symbol.volume_max)
    || not (is_multiple symbol.volume_min symbol.volume_step)
    then Some (codes "volume_min")
    else (if not (is_multiple symbol.volume_max symbol.volume_step) then Some (codes "volume_max") else None)

-- the key of this symbol, or what is found further on
abbrev pub odd_or : ℕ → Option (List ℕ) → Option (ℕ × List ℕ) → Option (ℕ × List ℕ)
odd_or i None further = further
odd_or i (Some key) further = Some (i, key)

-- the first of the symbols from the i-th on whose volumes are at odds, with the key
unfoldable pub odd_volumes_from : ℕ → List SymbolSpec → Option (ℕ × List ℕ)
odd_volumes_from i [] = None
odd_volumes_from i (symbol ∷ more) = odd_or i (volumes_at_odds symbol) (odd_volumes_from (i + 1) more)

-- the rules over all the symbols, in order: their number (7), their names (8), their volumes (9)
abbrev pub judged_volumes : {A : Type 0} → Option (ℕ × List ℕ) → A → Result A Broken
judged_volumes None x = Ok x
judged_volumes (Some odd) x = Err (9, symbol_prefix odd.0 ++ odd.1)

abbrev pub judged_names : Option ℕ → List SymbolSpec → Result (List SymbolSpec) Broken
judged_names None symbols = judged_volumes (odd_volumes_from 0 symbols) symbols
judged_names (Some i) symbols = Err (8, symbol_prefix i ++ codes "name")

abbrev pub judged : List SymbolSpec → Result (List SymbolSpec) Broken
judged symbols =
    if is_number_of_symbols (length symbols)
    then judged_names (double_from 0 [] symbols) symbols
    else Err (7, [])
