-- How a quotient of whole numbers is rounded (own fixed point).
use Rattle.std.specs.Prelude.{ℕ, ◌+◌, ◌*◌, ◌/◌, ◌<◌, ◌≤◌, Bool, true, false, not, if◌then◌else◌, ℤ, pos, negsuc, neg_ℤ, unsigned_abs}

-- the whole number nearest to n / q, the greater one at a tie
abbrev pub nearest : ℕ → ℕ → ℕ
nearest n q = (2 * n + q) / (2 * q)

-- n / q lies from k - 1/2 on, and below k + 1/2
pub record IsNearest (n q k : ℕ) : Type 0 where
  pub low : 2 * (k * q) ≤ 2 * n + q
  pub high : 2 * n < 2 * (k * q) + q

-- so many, or so many below zero
abbrev pub signed : Bool → ℕ → ℤ
signed true n = neg_ℤ (pos n)
signed false n = pos n

-- z is below zero
abbrev pub is_below_zero : ℤ → Bool
is_below_zero (pos n) = false
is_below_zero (negsuc n) = true

-- the sides have different signs
abbrev pub signs_differ : ℤ → ℤ → Bool
signs_differ p q = if is_below_zero q then not (is_below_zero p) else is_below_zero p

-- the whole number nearest to p / q, the one farther from zero at a tie
unfoldable pub rounded : ℤ → ℤ → ℤ
rounded p q = signed (signs_differ p q) (nearest (unsigned_abs p) (unsigned_abs q))
