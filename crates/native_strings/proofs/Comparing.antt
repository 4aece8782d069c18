-- How two texts are compared.
use Rattle.std.proofs.Common.{◌≡◌, ℕ, ◌<◌, ◌≤◌, List, [], ◌∷◌, length, get_or, drop, map, ℤ, pos, negsuc, refl, arith}
use Rattle.mql_meaning.specs.Operators.{order}
use Rattle.mql_meaning.specs.StringFunctions.{small}

pub same_first : (a b : List ℕ) → 1 ≤ length a → 1 ≤ length b → get_or b 0 0 ≤ get_or a 0 0 → get_or a 0 0 ≤ get_or b 0 0
    → order a b ≡ order (drop 1 a) (drop 1 b)
same_first [] b h i l m = absurd (omega arith)
same_first (x ∷ xs) [] h i l m = absurd (omega arith)
same_first (x ∷ xs) (y ∷ ys) h i l m = grind arith

pub less_first : (a b : List ℕ) → 1 ≤ length a → 1 ≤ length b → get_or a 0 0 < get_or b 0 0 → order a b ≡ negsuc 0
less_first [] b h i l = absurd (omega arith)
less_first (x ∷ xs) [] h i l = absurd (omega arith)
less_first (x ∷ xs) (y ∷ ys) h i l = grind arith

pub greater_first : (a b : List ℕ) → 1 ≤ length a → 1 ≤ length b → get_or b 0 0 < get_or a 0 0 → order a b ≡ pos 1
greater_first [] b h i l = absurd (omega arith)
greater_first (x ∷ xs) [] h i l = absurd (omega arith)
greater_first (x ∷ xs) (y ∷ ys) h i l = grind arith

pub second_ends : (a b : List ℕ) → 1 ≤ length a → length b < 1 → order a b ≡ pos 1
second_ends [] b h i = absurd (omega arith)
second_ends (x ∷ xs) [] h i = refl
second_ends (x ∷ xs) (y ∷ ys) h i = absurd (omega arith)

pub both_end : (a b : List ℕ) → length a < 1 → length b ≡ 0 → order a b ≡ pos 0
both_end [] [] h i = refl
both_end [] (y ∷ ys) h i = absurd (omega arith)
both_end (x ∷ xs) b h i = absurd (omega arith)

pub first_ends : (a b : List ℕ) → length a < 1 → 0 < length b → order a b ≡ negsuc 0
first_ends [] [] h i = absurd (omega arith)
first_ends [] (y ∷ ys) h i = refl
first_ends (x ∷ xs) b h i = absurd (omega arith)

-- the same of small letters
pub same_small : (a b : List ℕ) → 1 ≤ length a → 1 ≤ length b → small (get_or b 0 0) ≤ small (get_or a 0 0)
    → small (get_or a 0 0) ≤ small (get_or b 0 0) → order (map small a) (map small b) ≡ order (map small (drop 1 a)) (map small (drop 1 b))
same_small [] b h i l m = absurd (omega arith)
same_small (x ∷ xs) [] h i l m = absurd (omega arith)
same_small (x ∷ xs) (y ∷ ys) h i l m = same_first (small x ∷ map small xs) (small y ∷ map small ys) (omega arith) (omega arith) l m

pub less_small : (a b : List ℕ) → 1 ≤ length a → 1 ≤ length b → small (get_or a 0 0) < small (get_or b 0 0)
    → order (map small a) (map small b) ≡ negsuc 0
less_small [] b h i l = absurd (omega arith)
less_small (x ∷ xs) [] h i l = absurd (omega arith)
less_small (x ∷ xs) (y ∷ ys) h i l = less_first (small x ∷ map small xs) (small y ∷ map small ys) (omega arith) (omega arith) l

pub greater_small : (a b : List ℕ) → 1 ≤ length a → 1 ≤ length b → small (get_or b 0 0) < small (get_or a 0 0)
    → order (map small a) (map small b) ≡ pos 1
greater_small [] b h i l = absurd (omega arith)
greater_small (x ∷ xs) [] h i l = absurd (omega arith)
greater_small (x ∷ xs) (y ∷ ys) h i l = greater_first (small x ∷ map small xs) (small y ∷ map small ys) (omega arith) (omega arith) l

pub second_small_ends : (a b : List ℕ) → 1 ≤ length a → length b < 1 → order (map small a) (map small b) ≡ pos 1
second_small_ends [] b h i = absurd (omega arith)
second_small_ends (x ∷ xs) [] h i = refl
second_small_ends (x ∷ xs) (y ∷ ys) h i = absurd (omega arith)

pub both_small_end : (a b : List ℕ) → length a < 1 → length b ≡ 0 → order (map small a) (map small b) ≡ pos 0
both_small_end [] [] h i = refl
both_small_end [] (y ∷ ys) h i = absurd (omega arith)
both_small_end (x ∷ xs) b h i = absurd (omega arith)

pub first_small_ends : (a b : List ℕ) → length a < 1 → 0 < length b → order (map small a) (map small b) ≡ negsuc 0
first_small_ends [] [] h i = absurd (omega arith)
first_small_ends [] (y ∷ ys) h i = refl
first_small_ends (x ∷ xs) b h i = absurd (omega arith)
