-- Values in their types' ranges, by the lists that they hold.
use Rattle.std.proofs.Common.{◌≡◌, ◌&&◌, ℤ, Bool, true, false, List, refl, sym, ap, ◌∙◌, arith}
use Rattle.std.specs.Prelude.{◌-ℤ◌}
use Rattle.std.proofs.lemmas.Int.{ints}
use Rattle.fx8.specs.Integers.{is_zero}
use mathlib.Core.Former.{Count}
use Rattle.mql_mean.specs.declared.value.Value as row
use Rattle.mql_mean.specs.declared.value.Value.{Value, out-Value, roll-Value, roll-out-Value, Row_of-Value, end_of-Value, more_of-Value, items-the_row-Value, items_hidden-the_row-Value-0}
use Rattle.mql_mean.specs.declared.value.Value.TheVariants as value
use Rattle.mql_mean.specs.declared.value.Value.TheOpen.{Value-F}
use denote.Hole.Carrier.{roll}
use Rattle.mql_meaning.specs.Calls.{is_sound, are_sound, all_sound}

sound_row : (n : _) (vs : Row_of-Value n) → are_sound vs ≡ all_sound (items-the_row-Value n vs)
sound_row n end_of-Value = refl
sound_row n (more_of-Value v vs) = ap (λ b. is_sound v && b) (sound_row _ vs)

abbrev item_row : Value → (n : Count) × Row_of-Value n
item_row (row.Arr' _ vs) = (_, vs)
item_row (row.Rec' _ vs) = (_, vs)
item_row _ = (_, end_of-Value)

sound_array : (vs : List Value) → is_sound (value.Arr vs) ≡ all_sound vs
sound_array vs =
    let r = item_row (value.Arr vs) in sound_row r.0 r.1 ∙ ap all_sound (items_hidden-the_row-Value-0 vs)

sound_structure : (vs : List Value) → is_sound (value.Rec vs) ≡ all_sound vs
sound_structure vs =
    let r = item_row (value.Rec vs) in sound_row r.0 r.1 ∙ ap all_sound (items_hidden-the_row-Value-0 vs)

abbrev opened : Value-F Value → Value → Bool
opened (Value-F.Arr vs) v = all_sound vs
opened (Value-F.Rec vs) v = all_sound vs
opened _ v = is_sound v

sound_rolled : (w : Value-F Value) → is_sound (roll-Value w) ≡ opened w (roll-Value w)
unfolding roll-Value denote.Hole.Carrier.roll
sound_rolled (Value-F.Arr vs) = sound_array vs
sound_rolled (Value-F.Rec vs) = sound_structure vs
sound_rolled (Value-F.Num k x) = refl
sound_rolled (Value-F.Dbl x) = refl
sound_rolled (Value-F.Str s) = refl
sound_rolled (Value-F.Ptr p) = refl

sound_opened : (v : Value) → is_sound v ≡ opened (out-Value v) v
sound_opened v =
    ap is_sound (sym (roll-out-Value v)) ∙ sound_rolled (out-Value v)
    ∙ ap (opened (out-Value v)) (roll-out-Value v)

pub array_sound : (v : Value) (vs : List Value) → out-Value v ≡ Value-F.Arr vs → is_sound v ≡ all_sound vs
array_sound v vs e = sound_opened v ∙ ap (λ w. opened w v) e

pub structure_sound : (v : Value) (vs : List Value) → out-Value v ≡ Value-F.Rec vs → is_sound v ≡ all_sound vs
structure_sound v vs e = sound_opened v ∙ ap (λ w. opened w v) e

pub array_sound_same : (v : Value) (vs : List Value) → v ≡ value.Arr vs → is_sound v ≡ all_sound vs
array_sound_same v vs e = ap is_sound e ∙ sound_array vs

pub structure_sound_same : (v : Value) (vs : List Value) → v ≡ value.Rec vs → is_sound v ≡ all_sound vs
structure_sound_same v vs e = ap is_sound e ∙ sound_structure vs

-- numbers that are equal, and two that are not
pub nothing_between : (x y : ℤ) → x ≡ y → is_zero (x -ℤ y) ≡ true
nothing_between x y e = grind (arith, ints)

pub something_between : (x y : ℤ) → (x ≡ y → ⊥) → is_zero (x -ℤ y) ≡ false
something_between x y e = grind (arith, ints)
