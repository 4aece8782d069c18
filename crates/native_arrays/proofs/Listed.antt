-- Numbers before others.
use Rattle.std.proofs.Common.{◌≡◌, ℤ, List, [], ◌∷◌, ◌++◌, Option, Some, None, refl, ap, append_assoc, sym}
use Rattle.mql_meaning.specs.Changes.{then_some}

abbrev pub before : List ℤ → Option (List ℤ) → Option (List ℤ)
before xs more = then_some more (λ ys. Some (xs ++ ys))

pub before_none : (more : Option (List ℤ)) → before [] more ≡ more
before_none None = refl
before_none (Some ys) = refl

pub before_one : (xs : List ℤ) (x : ℤ) (more : Option (List ℤ)) →
    before xs (then_some more (λ ys. Some (x ∷ ys))) ≡ before (xs ++ x ∷ []) more
before_one xs x None = refl
before_one xs x (Some ys) = ap Some (sym (append_assoc xs (x ∷ []) ys))
