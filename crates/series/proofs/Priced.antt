-- The greater and the lesser of two prices are prices.
use Rattle.std.proofs.Common.{ℕ, ℤ, ◌≤◌, Bool, true, false, cond}
use Rattle.std.specs.Prelude.{unsigned_abs, int_lt}
use Rattle.std.specs.Int.{int_max, int_min}

one_of : (b : Bool) (x y : ℤ) (m : ℕ) → unsigned_abs x ≤ m → unsigned_abs y ≤ m → unsigned_abs (cond b x y) ≤ m
one_of true x y m p q = p
one_of false x y m p q = q

pub greater_priced : (x y : ℤ) (m : ℕ) → unsigned_abs x ≤ m → unsigned_abs y ≤ m → unsigned_abs (int_max x y) ≤ m
greater_priced x y m p q = one_of (int_lt y x) x y m p q

pub lesser_priced : (x y : ℤ) (m : ℕ) → unsigned_abs x ≤ m → unsigned_abs y ≤ m → unsigned_abs (int_min x y) ≤ m
lesser_priced x y m p q = one_of (int_lt y x) y x m q p
