-- Ancestors one after another.
use Rattle.std.proofs.Common.{◌≡◌, ℕ, suc, Bool, false, bytes_eq, ◌||◌, [], ◌∷◌, Option, Some, None, ap, ◌∙◌}
use Rattle.mql_names.specs.Scopes.{Name, is_among}
use Rattle.mql_parents.specs.Parents.{Parents, ancestors}

abbrev among : Parents → ℕ → Name → Option Name → Bool
among parent n name o = is_among name (elim o [ None ↦ [] | Some p ↦ p ∷ ancestors parent n p ])

-- the parent is of another name
pub chain_goes_on : (parent : Parents) (n m : ℕ) (at name p : Name) → n ≡ suc m → parent at ≡ Some p → bytes_eq p name ≡ false
    → is_among name (ancestors parent n at) ≡ is_among name (ancestors parent m p)
chain_goes_on parent n m at name p h e b =
    ap (λ k. is_among name (ancestors parent k at)) h ∙ ap (among parent m name) e ∙ ap (λ (c : Bool). c || is_among name (ancestors parent m p)) b
