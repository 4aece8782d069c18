-- Symbols that break no rule over all of them.
use Rattle.std.proofs.Common.{◌≡◌, ℕ, ◌+◌, Bool, true, false, not, ◌||◌, List, [], ◌∷◌, Option, Some, None, arith, refl}
use Rattle.std.specs.Prelude.{All, int_le, codes, if◌then◌else◌}
use Rattle.std.proofs.lemmas.List.Elements.{All-nil, All-cons, All-head, All-tail}
use Rattle.std.proofs.lemmas.Bool.Decides.{nat_tests}
use Rattle.std.proofs.lemmas.Int.{ints}
use Rattle.market_types.specs.declared.symbol_spec.SymbolSpec.{SymbolSpec}
use Rattle.market_types.specs.Ranges.{IsSpec}
use Rattle.settings_file.specs.Ranges.{SymbolIsInRange}
use Rattle.settings_file.specs.Symbols.{is_multiple, volumes_at_odds, odd_or, odd_volumes_from}

-- tests none of which finds a fault
record AllPass (a b d : Bool) : Type 0 where
  first : a ≡ true
  second : b ≡ true
  third : d ≡ true

found : (a b d : Bool) (x y : List ℕ) → (if (not a || not b) then Some x else (if not d then Some y else None)) ≡ None → AllPass a b d
found true true true x y e = record { first = refl; second = refl; third = refl }
found true true false x y e = absurd (cc)
found true false d x y e = absurd (cc)
found false b d x y e = absurd (cc)

even : (s : SymbolSpec) → SymbolIsInRange s → volumes_at_odds s ≡ None → IsSpec s
even s r e =
    let p = found (int_le s.volume_min s.volume_max) (is_multiple s.volume_min s.volume_step) (is_multiple s.volume_max s.volume_step) (codes "volume_min") (codes "volume_max") e in
    record {
      name = r.name;
      digits = r.digits;
      contract_from = r.contract_from;
      contract_to = r.contract_to;
      volume_min = r.volume_min;
      volume_max = r.volume_max;
      volume_step = r.volume_step;
      volumes = grind (arith, ints, p.first);
      min_steps = grind (arith, nat_tests, p.second);
      max_steps = grind (arith, nat_tests, p.third);
      stops_level = r.stops_level;
      spread = r.spread;
      commission_from = r.commission_from;
      commission_to = r.commission_to;
      swap_long = r.swap_long;
      swap_short = r.swap_short;
      swap_day = r.swap_day;
    }

record BothNone (a : Option (List ℕ)) (b : Option (ℕ × List ℕ)) : Type 0 where
  here : a ≡ None
  further : b ≡ None

neither : (i : ℕ) (a : Option (List ℕ)) (b : Option (ℕ × List ℕ)) → odd_or i a b ≡ None → BothNone a b
neither i None b e = record { here = refl; further = e }
neither i (Some key) b e = absurd (cc)

pub all_specs : (i : ℕ) (symbols : List SymbolSpec) → odd_volumes_from i symbols ≡ None → All SymbolIsInRange symbols → All IsSpec symbols
unfolding odd_volumes_from
all_specs i [] e h = All-nil IsSpec
all_specs i (s ∷ more) e h =
    let p = neither i (volumes_at_odds s) (odd_volumes_from (i + 1) more) e in
    All-cons IsSpec s more (even s (All-head SymbolIsInRange s more h) p.here) (all_specs (i + 1) more p.further (All-tail SymbolIsInRange s more h))
