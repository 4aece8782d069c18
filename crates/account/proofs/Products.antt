-- Products of 128-bit words that were written and read again.
use Rattle.std.proofs.Common.{◌≡◌, ◌≤◌, ◌<◌, ◌*◌, ◌^◌, ℕ, ℤ, ◌*ℤ◌, unsigned_abs, FitsSigned, to_z, of_z, arith}
use Rattle.std.specs.Int.{w128}
use Rattle.std.proofs.lemmas.Int.{fits_signed_from_abs, unsigned_abs-mul, to_z-of_z}
use Rattle.std.proofs.lemmas.Nat.{mul-le}

pub product_fits : (a b : ℤ) → unsigned_abs a * unsigned_abs b < 2 ^ 127 → FitsSigned w128 (a *ℤ b)
product_fits a b h = fits_signed_from_abs w128 _ (rw (unsigned_abs-mul a b) h)

pub product_is : (a b : ℤ) → FitsSigned w128 a → FitsSigned w128 b → unsigned_abs a * unsigned_abs b < 2 ^ 127
    → to_z w128 (of_z w128 (to_z w128 (of_z w128 a) *ℤ to_z w128 (of_z w128 b))) ≡ a *ℤ b
product_is a b f g h = rw (to_z-of_z w128 a f, to_z-of_z w128 b g) (to_z-of_z w128 _ (product_fits a b h))

pub product_within : (a b : ℤ) → FitsSigned w128 a → FitsSigned w128 b → unsigned_abs a * unsigned_abs b < 2 ^ 127
    → FitsSigned w128 (to_z w128 (of_z w128 a) *ℤ to_z w128 (of_z w128 b))
product_within a b f g h = rw (to_z-of_z w128 a f, to_z-of_z w128 b g) (product_fits a b h)

-- a product lies below what its bounds give
pub below : (a b m n k : ℕ) → a ≤ m → b ≤ n → m * n < k → a * b < k
below a b m n k p q h = omega (arith, mul-le a b m n p q, h)

-- the same for factors that were written and read again
pub below_back : (a b : ℤ) (m n : ℕ) → FitsSigned w128 a → FitsSigned w128 b → unsigned_abs a ≤ m → unsigned_abs b ≤ n → m * n < 2 ^ 127
    → unsigned_abs (to_z w128 (of_z w128 a)) * unsigned_abs (to_z w128 (of_z w128 b)) < 2 ^ 127
below_back a b m n f g p q h = rw (to_z-of_z w128 a f, to_z-of_z w128 b g) (below (unsigned_abs a) (unsigned_abs b) m n _ p q h)
