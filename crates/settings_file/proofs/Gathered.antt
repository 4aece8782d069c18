-- How symbols that are judged one after another are gathered, and the rules over all of them.
use Rattle.std.proofs.Common.{◌≡◌, ℕ, ◌+◌, ◌<◌, ◌≤◌, true, false, List, [], ◌∷◌, ◌++◌, length, get_or, take, drop, Ok, Err, Result, Option, Some, None, sym, ap, ◌∙◌, append-nil, subst}
use Rattle.std.proofs.lemmas.List.{drop_all, drop_more, take_more}
use Rattle.toml.specs.Data.{Data, Items, no_items, item}
use Rattle.market_types.specs.declared.symbol_spec.SymbolSpec.{SymbolSpec}
use Rattle.settings_file.specs.Faults.{Broken}
use Rattle.settings_file.specs.Symbols.{symbols_from, symbol_of, has_name, double_from, volumes_at_odds, odd_volumes_from, odd_or}
use Rattle.settings_file.specs.Symbols.{spec_of}
use Rattle.settings_file.specs.Ranges.{HeadIsInRange, VolumesAreInRange, CostsAreInRange, SymbolIsInRange}
use Rattle.settings_file.specs.declared.symbols.Head.{Head}
use Rattle.settings_file.specs.declared.symbols.Volumes.{Volumes}
use Rattle.settings_file.specs.declared.symbols.Costs.{Costs}
use Rattle.settings_file.proofs.Entered.{after, after_one}

pub symbol_good : (symbols all : List SymbolSpec) (total : Result (List SymbolSpec) Broken) (i : ℕ) (d : Data) (more : Items) (symbol : SymbolSpec)
    → after symbols (symbols_from i (item d more)) ≡ total → symbol_of i d ≡ Ok symbol → all ≡ symbols ++ (symbol ∷ []) → after all (symbols_from (i + 1) more) ≡ total
unfolding symbols_from
symbol_good symbols all total i d more symbol e s a = rw a (sym (after_one symbols symbol (symbols_from (i + 1) more)) ∙ rw s at e)

pub symbol_bad : (symbols : List SymbolSpec) (total : Result (List SymbolSpec) Broken) (i : ℕ) (d : Data) (more : Items) (broken : Broken)
    → after symbols (symbols_from i (item d more)) ≡ total → symbol_of i d ≡ Err broken → total ≡ Err broken
unfolding symbols_from
symbol_bad symbols total i d more broken e s = sym (rw s at e)

pub symbols_end : (symbols : List SymbolSpec) (total : Result (List SymbolSpec) Broken) (i : ℕ) → after symbols (symbols_from i no_items) ≡ total → total ≡ Ok symbols
unfolding symbols_from
symbols_end symbols total i e = sym e ∙ ap Ok (append-nil symbols)

-- one more symbol of those that are left
next_double : (earlier : List SymbolSpec) (symbol : SymbolSpec) (more : List SymbolSpec) (i : ℕ) (total : Option ℕ) → double_from i earlier (symbol ∷ more) ≡ total
    → has_name symbol.name earlier ≡ false → double_from (i + 1) (earlier ++ symbol ∷ []) more ≡ total
unfolding double_from
next_double earlier symbol more i total e h = rw h at e

here_double : (earlier : List SymbolSpec) (symbol : SymbolSpec) (more : List SymbolSpec) (i : ℕ) (total : Option ℕ) → double_from i earlier (symbol ∷ more) ≡ total
    → has_name symbol.name earlier ≡ true → total ≡ Some i
unfolding double_from
here_double earlier symbol more i total e h = sym (rw h at e)

pub double_more : (symbols : List SymbolSpec) (symbol : SymbolSpec) (i : ℕ) (total : Option ℕ) → i < length symbols → symbol ≡ get_or symbols i symbol
    → double_from i (take i symbols) (drop i symbols) ≡ total → has_name symbol.name (take i symbols) ≡ false
    → double_from (i + 1) (take (i + 1) symbols) (drop (i + 1) symbols) ≡ total
double_more symbols symbol i total h is e no_name =
    let left : drop i symbols ≡ symbol ∷ drop (i + 1) symbols = drop_more symbols i symbol h ∙ ap (λ (x : SymbolSpec). x ∷ drop (i + 1) symbols) (sym is) in
    let seen : take (i + 1) symbols ≡ take i symbols ++ symbol ∷ [] = take_more symbols i symbol h ∙ ap (λ (x : SymbolSpec). take i symbols ++ x ∷ []) (sym is) in
    ap (λ (x : List SymbolSpec). double_from (i + 1) x (drop (i + 1) symbols)) seen
    ∙ next_double (take i symbols) symbol (drop (i + 1) symbols) i total (ap (λ (x : List SymbolSpec). double_from i (take i symbols) x) (sym left) ∙ e) no_name

pub double_here : (symbols : List SymbolSpec) (symbol : SymbolSpec) (i : ℕ) (total : Option ℕ) → i < length symbols → symbol ≡ get_or symbols i symbol
    → double_from i (take i symbols) (drop i symbols) ≡ total → has_name symbol.name (take i symbols) ≡ true → total ≡ Some i
double_here symbols symbol i total h is e name =
    let left : drop i symbols ≡ symbol ∷ drop (i + 1) symbols = drop_more symbols i symbol h ∙ ap (λ (x : SymbolSpec). x ∷ drop (i + 1) symbols) (sym is) in
    here_double (take i symbols) symbol (drop (i + 1) symbols) i total (ap (λ (x : List SymbolSpec). double_from i (take i symbols) x) (sym left) ∙ e) name

pub double_none : (symbols : List SymbolSpec) (i : ℕ) (total : Option ℕ) → length symbols ≤ i → double_from i (take i symbols) (drop i symbols) ≡ total → total ≡ None
unfolding double_from
double_none symbols i total h e = sym e ∙ ap (λ (x : List SymbolSpec). double_from i (take i symbols) x) (drop_all i symbols h)

-- the volumes of one symbol more
pub odd_more : (symbols : List SymbolSpec) (symbol : SymbolSpec) (i : ℕ) (total : Option (ℕ × List ℕ)) → i < length symbols → symbol ≡ get_or symbols i symbol
    → odd_volumes_from i (drop i symbols) ≡ total → odd_or i (volumes_at_odds symbol) (odd_volumes_from (i + 1) (drop (i + 1) symbols)) ≡ total
unfolding odd_volumes_from
odd_more symbols symbol i total h is e =
    let left : drop i symbols ≡ symbol ∷ drop (i + 1) symbols = drop_more symbols i symbol h ∙ ap (λ (x : SymbolSpec). x ∷ drop (i + 1) symbols) (sym is) in
    ap (λ (x : List SymbolSpec). odd_volumes_from i x) (sym left) ∙ e

pub odd_none : (symbols : List SymbolSpec) (i : ℕ) (total : Option (ℕ × List ℕ)) → length symbols ≤ i → odd_volumes_from i (drop i symbols) ≡ total → total ≡ None
unfolding odd_volumes_from
odd_none symbols i total h e = sym e ∙ ap (λ (x : List SymbolSpec). odd_volumes_from i x) (drop_all i symbols h)

-- a symbol of parts that are within their ranges
pub in_range : (symbol : SymbolSpec) (head : Head) (volumes : Volumes) (costs : Costs) → symbol ≡ spec_of head volumes costs → HeadIsInRange head → VolumesAreInRange volumes → CostsAreInRange costs
    → SymbolIsInRange symbol
in_range symbol head volumes costs e h v k =
    subst SymbolIsInRange (sym e) (record {
      name = h.name;
      digits = h.digits;
      contract_from = h.contract_from;
      contract_to = h.contract_to;
      volume_min = v.min;
      volume_max = v.max;
      volume_step = v.step;
      stops_level = k.stops_level;
      spread = k.spread;
      commission_from = k.commission_from;
      commission_to = k.commission_to;
      swap_long = k.swap_long;
      swap_short = k.swap_short;
      swap_day = k.swap_day;
    })
