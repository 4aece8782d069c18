-- The best among numbers, one after another.
use Rattle.std.proofs.Common.{◌≡◌, ℕ, ◌+◌, ◌<◌, ◌≤◌, ℤ, Bool, true, false, List, [], ◌∷◌, length, get_or, drop, Option, Some, refl, sym, ap, ◌∙◌, drop_of_length-le}
use Rattle.std.proofs.lemmas.List.{drop_more}
use Rattle.mql_meaning.specs.ArrayFunctions.{best_from}

-- the first of those that are left
opened : (ys : List ℤ) (i : ℕ) (y : ℤ) → i < length ys → y ≡ get_or ys i y → drop i ys ≡ y ∷ drop (i + 1) ys
opened ys i y h e = drop_more ys i y h ∙ ap (λ (z : ℤ). z ∷ drop (i + 1) ys) (sym e)

turn : (b : ℤ → ℤ → Bool) (p at : ℕ) (x y : ℤ) (ys : List ℤ) (r : Bool) → b y x ≡ r →
    best_from b p at x (y ∷ ys)
    ≡ elim r [ true ↦ best_from b (p + 1) p y ys | false ↦ best_from b (p + 1) at x ys ]
turn b p at x y ys r e =
    ap (λ (t : Bool). elim t [ true ↦ best_from b (p + 1) p y ys | false ↦ best_from b (p + 1) at x ys ]) e

-- the next one does not better the best so far
pub kept : (b : ℤ → ℤ → Bool) (p at : ℕ) (x y : ℤ) (ys : List ℤ) (i : ℕ) (all : Option ℕ) → i < length ys →
    y ≡ get_or ys i y → b y x ≡ false → all ≡ Some (best_from b p at x (drop i ys)) →
    all ≡ Some (best_from b (p + 1) at x (drop (i + 1) ys))
kept b p at x y ys i all h e f is =
    is ∙ ap (λ (zs : List ℤ). Some (best_from b p at x zs)) (opened ys i y h e)
    ∙ ap Some (turn b p at x y (drop (i + 1) ys) false f)

-- the next one betters it
pub changed : (b : ℤ → ℤ → Bool) (p at : ℕ) (x y : ℤ) (ys : List ℤ) (i : ℕ) (all : Option ℕ) → i < length ys →
    y ≡ get_or ys i y → b y x ≡ true → all ≡ Some (best_from b p at x (drop i ys)) →
    all ≡ Some (best_from b (p + 1) p y (drop (i + 1) ys))
changed b p at x y ys i all h e f is =
    is ∙ ap (λ (zs : List ℤ). Some (best_from b p at x zs)) (opened ys i y h e)
    ∙ ap Some (turn b p at x y (drop (i + 1) ys) true f)

pub ended : (b : ℤ → ℤ → Bool) (p at : ℕ) (x : ℤ) (ys : List ℤ) (i : ℕ) (all : Option ℕ) → length ys ≤ i →
    all ≡ Some (best_from b p at x (drop i ys)) → all ≡ Some at
ended b p at x ys i all h is =
    is ∙ ap (λ (zs : List ℤ). Some (best_from b p at x zs)) (drop_of_length-le ys h)
