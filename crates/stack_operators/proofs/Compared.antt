-- Numbers that are equal.
use Rattle.std.proofs.Common.{◌≡◌, ℤ, true, false, arith}
use Rattle.std.specs.Prelude.{◌-ℤ◌}
use Rattle.std.proofs.lemmas.Int.{ints}
use Rattle.fx8.specs.Integers.{is_zero}

pub nothing_between : (x y : ℤ) → x ≡ y → is_zero (x -ℤ y) ≡ true
nothing_between x y e = grind (arith, ints)

pub something_between : (x y : ℤ) → (x ≡ y → ⊥) → is_zero (x -ℤ y) ≡ false
something_between x y e = grind (arith, ints)
