-- How large products of 128-bit words are.
use Rattle.std.proofs.Common.{◌≡◌, ◌≤◌, ◌^◌, ℤ, ◌*ℤ◌, unsigned_abs, FitsSigned, to_z, of_z, arith}
use Rattle.std.specs.Int.{w128}
use Rattle.std.proofs.lemmas.Int.{fits_signed_from_abs, unsigned_abs-mul, to_z-of_z}
use Rattle.std.proofs.lemmas.Nat.{mul-le}

pub product_size : (x y : ℤ) → unsigned_abs x ≤ 2 ^ 63 → unsigned_abs y ≤ 2 ^ 63 → unsigned_abs (x *ℤ y) ≤ 2 ^ 126
product_size x y p q = rw (unsigned_abs-mul x y) (omega (arith, mul-le (unsigned_abs x) (unsigned_abs y) (2 ^ 63) (2 ^ 63) p q))

pub product_fits_128 : (x y : ℤ) → unsigned_abs x ≤ 2 ^ 63 → unsigned_abs y ≤ 2 ^ 63 → FitsSigned w128 (x *ℤ y)
product_fits_128 x y p q = fits_signed_from_abs w128 _ (omega (arith, product_size x y p q))

pub product_back : (x y : ℤ) → FitsSigned w128 x → FitsSigned w128 y → unsigned_abs x ≤ 2 ^ 63 → unsigned_abs y ≤ 2 ^ 63
    → to_z w128 (of_z w128 (to_z w128 (of_z w128 x) *ℤ to_z w128 (of_z w128 y))) ≡ x *ℤ y
product_back x y f g p q = rw (to_z-of_z w128 x f, to_z-of_z w128 y g) (to_z-of_z w128 _ (product_fits_128 x y p q))

pub product_within : (x y : ℤ) → FitsSigned w128 x → FitsSigned w128 y → unsigned_abs x ≤ 2 ^ 63 → unsigned_abs y ≤ 2 ^ 63
    → FitsSigned w128 (to_z w128 (of_z w128 x) *ℤ to_z w128 (of_z w128 y))
product_within x y f g p q = rw (to_z-of_z w128 x f, to_z-of_z w128 y g) (product_fits_128 x y p q)
