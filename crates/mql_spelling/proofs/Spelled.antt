-- What a look-up by spellings finds.
use Rattle.std.proofs.Common.{◌≡◌, ℕ, Bool, true, false, cond, List, [], ◌∷◌, refl, ap, ◌∙◌, Option, Some, None, bytes_eq}
use Rattle.std.proofs.lemmas.Slice.Eq.{bytes_eq-Decides}
use Rattle.mql_spelling.specs.Spelled.{spelled_among}

pub found_by : {K : Type 0} (spelling : K → List ℕ) (list : List K) (us : List ℕ) (k : K) → spelled_among spelling list us ≡ Some k → us ≡ spelling k
found_by {K} spelling [] us k h = absurd (let q : ◌≡◌ {A = Option K} None (Some k) = h in cc)
found_by {K} spelling (x ∷ xs) us k h =
    (elim (bytes_eq us (spelling x)) as (λ (v : Bool). bytes_eq us (spelling x) ≡ v → cond v (Some x) (spelled_among spelling xs us) ≡ Some k → us ≡ spelling k) [
      | true ↦ λ e g. (bytes_eq-Decides us (spelling x)).0 e ∙ ap spelling (let q : x ≡ k = cc in q)
      | false ↦ λ e g. found_by spelling xs us k g
    ]) refl h
