-- Arrays that grow.
use Rattle.std.proofs.Common.{◌≡◌, ℕ, zero, suc, ◌+◌, ◌-◌, ◌/◌, ◌<◌, ◌≤◌, Bool, true, false, List, ◌++◌, length, take, refl, ap, ◌∙◌, sym, arith}
use Rattle.std.specs.Prelude.{nat_lt}
use Rattle.std.proofs.Math.Nat.{div-zero}
use Rattle.std.proofs.lemmas.Bool.Decides.{nat_tests}
use Rattle.mql_meaning.specs.declared.cell.Cell.{Cell}
use Rattle.mql_meaning.specs.Changes.{either}
use Rattle.mql_meaning.specs.ArrayFunctions.{ArrayParts, added, grown, per_place, resized}
use Rattle.native_arrays.specs.Lists.{parts}

pub by_nothing : (n each : ℕ) → each ≡ 0 → 0 ≡ n / each
by_nothing n each e = sym (ap (λ (k : ℕ). n / k) e ∙ div-zero n)

pub nothing_put : (a : ArrayParts) (before count : ℕ) → count ≡ 0 → grown a before count ≡ a
nothing_put a before zero e = refl
nothing_put a before (suc n) e = absurd (omega (arith, e))

turn : (a : ArrayParts) (before count n : ℕ) (b : Bool) → 1 ≤ count →
    n ≡ (before + count + per_place a.unit - 1) / per_place a.unit → nat_lt (length a.cells) n ≡ b →
    grown a before count ≡ either b (resized n a) a
turn a before zero n b h e t = absurd (omega (arith, h))
turn a before (suc k) n b h e t = rw (sym e) (rw t refl)

lt_true : (m n : ℕ) → m < n → nat_lt m n ≡ true
lt_true m n h = grind (arith, nat_tests)

lt_false : (m n : ℕ) → n ≤ m → nat_lt m n ≡ false
lt_false m n h = grind (arith, nat_tests)

pub enough : (dynamic series : Bool) (unit cs : List Cell) (before count n : ℕ) → 1 ≤ count →
    n ≡ (before + count + per_place unit - 1) / per_place unit → n ≤ length cs →
    grown (parts dynamic series unit cs) before count ≡ parts dynamic series unit cs
enough dynamic series unit cs before count n h e l =
    turn (parts dynamic series unit cs) before count n false h e (lt_false (length cs) n l)

pub more : (dynamic series : Bool) (unit cs ds : List Cell) (before count n : ℕ) → 1 ≤ count →
    n ≡ (before + count + per_place unit - 1) / per_place unit → length cs < n →
    ds ≡ take n cs ++ added unit (n - length cs) →
    grown (parts dynamic series unit cs) before count ≡ parts dynamic series unit ds
more dynamic series unit cs ds before count n h e l is =
    turn (parts dynamic series unit cs) before count n true h e (lt_true (length cs) n l)
    ∙ ap (parts dynamic series unit) (sym is)
