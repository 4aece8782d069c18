-- The binary digits of a square root.
use Rattle.std.proofs.Common.{◌≡◌, ℕ, zero, suc, ◌+◌, ◌*◌, ◌<◌, ◌≤◌, ◌^◌, Bool, true, false, ℤ, pos, negsuc, FitsSigned, refl, sym, ap, ◌∙◌, arith}
use Rattle.std.specs.Prelude.{nat_le, unsigned_abs, Option, Some, None}
use Rattle.std.specs.Int.{w64}
use Rattle.std.proofs.lemmas.Int.{ints}
use Rattle.std.proofs.lemmas.Nat.{mul-le}
use Rattle.std.proofs.Math.Nat.{pow-suc}
use Rattle.fx8.specs.Doubles.{IsRoot, IsRootOf}
use Rattle.mql_mean.specs.declared.error.ErrorKind.TheVariants.{MathDomain}
use Rattle.mql_meaning.specs.declared.store.Store.{Store}
use Rattle.mql_meaning.specs.Changes.{Done, fail, either}
use Rattle.mql_meaning.specs.MathFunctions.{one, root_from, square_root}

is_below : (a b : ℕ) → nat_le a b ≡ true → a ≤ b
is_below a b e = grind (arith, e)

is_above : (a b : ℕ) → nat_le a b ≡ false → b < a
is_above a b e = grind (arith, e)

-- the root is found where it is at least r and less than 2 ^ bits above it
pub root_found : (bits n r : ℕ) → r * r ≤ n → n < (r + 2 ^ bits) * (r + 2 ^ bits) → IsRoot n (root_from bits n r)
root_found zero n r low high = record { low = low; high = high }
root_found (suc bit) n r low high = (elim (nat_le ((r + 2 ^ bit) * (r + 2 ^ bit)) n)
    as (λ (b : Bool). nat_le ((r + 2 ^ bit) * (r + 2 ^ bit)) n ≡ b
    → IsRoot n (root_from bit n (either b (r + 2 ^ bit) r))) [
      | true ↦ λ e. root_found bit n (r + 2 ^ bit) (is_below ((r + 2 ^ bit) * (r + 2 ^ bit)) n e)
          (let twice : r + 2 ^ bit + 2 ^ bit ≡ r + 2 ^ suc bit = omega (arith, pow-suc 2 bit) in rw twice high)
      | false ↦ λ e. root_found bit n r low (is_above ((r + 2 ^ bit) * (r + 2 ^ bit)) n e)
    ]) refl

root_above : (n r s : ℕ) → IsRoot n r → IsRoot n s → r ≤ s
root_above n r s a b = grind (arith, mul-le (s + 1) (s + 1) r r, a.low, b.high)

one_root : (n r s : ℕ) → IsRoot n r → IsRoot n s → r ≡ s
one_root n r s a b = omega (arith, root_above n r s a b, root_above n s r b a)

size_below : (units : ℤ) → FitsSigned w64 units → unsigned_abs units < 2 ^ 64
size_below units h = grind (arith, ints)

root_is : (bits n k : ℕ) → n < (0 + 2 ^ bits) * (0 + 2 ^ bits) → IsRoot n k → root_from bits n 0 ≡ k
root_is bits n k few is = one_root n (root_from bits n 0) k (root_found bits n 0 (omega arith) few) is

pub root_some : (x r : ℤ) (store : Store) → FitsSigned w64 x → IsRootOf x (Some r) → square_root x store ≡ Done r store
root_some (pos n) r store fits (k, e, is) =
    let few : n < 2 ^ 64 = size_below (pos n) fits in
    ap (λ (m : ℕ). Done (pos m) store) (root_is 46 (n * one) k (omega (arith, few)) is) ∙ ap (λ (z : ℤ). Done z store) (sym e)
root_some (negsuc n) r store fits is = elim is [ ]

pub root_none : (x : ℤ) (store : Store) → IsRootOf x None → square_root x store ≡ fail MathDomain store
root_none (pos n) store is = elim is [ ]
root_none (negsuc n) store is = refl
