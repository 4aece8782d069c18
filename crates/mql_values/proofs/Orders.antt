-- Two texts compared unit by unit.
use Rattle.std.proofs.Common.{◌≡◌, ℕ, ◌<◌, ◌≤◌, true, false, List, [], ◌∷◌, length, drop, get_or, refl, sym, arith}
use Rattle.std.specs.Prelude.{ℤ, pos, negsuc, ◌==◌, int_lt}
use Rattle.mql_meaning.specs.Operators.{order}

pub same_heads : (s t : List ℕ) → 1 ≤ length s → 1 ≤ length t → get_or s 0 0 ≤ get_or t 0 0 → get_or t 0 0 ≤ get_or s 0 0 → order (drop 1 s) (drop 1 t) ≡ order s t
same_heads [] t p q l m = absurd (omega arith)
same_heads (x ∷ s) [] p q l m = absurd (omega arith)
same_heads (x ∷ s) (y ∷ t) p q l m = let e : (x == y) ≡ true = grind arith in sym (rw e refl)

pub less_heads : (s t : List ℕ) → 1 ≤ length s → 1 ≤ length t → get_or s 0 0 < get_or t 0 0 → order s t ≡ negsuc 0
less_heads [] t p q l = absurd (omega arith)
less_heads (x ∷ s) [] p q l = absurd (omega arith)
less_heads (x ∷ s) (y ∷ t) p q l =
    let e : (x == y) ≡ false = grind arith in let below : int_lt (pos x) (pos y) ≡ true = grind arith in rw (e, below) refl

pub more_heads : (s t : List ℕ) → 1 ≤ length s → 1 ≤ length t → get_or t 0 0 < get_or s 0 0 → order s t ≡ pos 1
more_heads [] t p q l = absurd (omega arith)
more_heads (x ∷ s) [] p q l = absurd (omega arith)
more_heads (x ∷ s) (y ∷ t) p q l =
    let e : (x == y) ≡ false = grind arith in let above : int_lt (pos x) (pos y) ≡ false = grind arith in rw (e, above) refl

pub longer : (s t : List ℕ) → 1 ≤ length s → length t < 1 → order s t ≡ pos 1
longer [] t p q = absurd (omega arith)
longer (x ∷ s) [] p q = refl
longer (x ∷ s) (y ∷ t) p q = absurd (omega arith)

pub shorter : (s t : List ℕ) → length s < 1 → 1 ≤ length t → order s t ≡ negsuc 0
shorter [] [] p q = absurd (omega arith)
shorter [] (y ∷ t) p q = refl
shorter (x ∷ s) t p q = absurd (omega arith)

pub both_end : (s t : List ℕ) → length s < 1 → length t < 1 → order s t ≡ pos 0
both_end [] [] p q = refl
both_end [] (y ∷ t) p q = absurd (omega arith)
both_end (x ∷ s) t p q = absurd (omega arith)
