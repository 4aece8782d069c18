-- How a square root is found between two bounds.
use Rattle.std.proofs.Common.{◌≡◌, ℕ, ◌+◌, ◌*◌, ◌<◌, ◌≤◌, ◌^◌, arith, subst}
use Rattle.std.proofs.lemmas.Nat.{mul-le}
use Rattle.fx8.specs.Doubles.{IsRoot}

-- the root lies from `low` on and below `above`
pub record IsBetween (n low above : ℕ) : Type 0 where
  pub order : low < above
  pub most : above ≤ 2 ^ 46
  pub from : low * low ≤ n
  pub to : n < above * above

below_next : (n low above : ℕ) → above ≡ low + 1 → n < above * above → n < (low + 1) * (low + 1)
below_next n low above e h = subst (λ (k : ℕ). n < k * k) e h

pub root_found : (n low above : ℕ) → IsBetween n low above → above ≤ low + 1 → IsRoot n low
root_found n low above b h = record { low = b.from; high = below_next n low above (omega (arith, b.order)) b.to }

-- numbers below 2 ^ 46 have squares that 128 bits hold
pub square_small : (k : ℕ) → k ≤ 2 ^ 46 → k * k ≤ 2 ^ 92
square_small k h = omega (arith, mul-le k k (2 ^ 46) (2 ^ 46) h h)
