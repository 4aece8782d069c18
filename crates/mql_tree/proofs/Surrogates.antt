-- The search for a surrogate without its partner, one character after another.
use Rattle.std.proofs.lemmas.List.{length-drop}
use Rattle.std.proofs.Common.{◌≡◌, ℕ, ◌+◌, ◌-◌, ◌≤◌, ◌<◌, Bool, true, false, ◌&&◌, cond, List, [], ◌∷◌, length, drop, refl, ap, ◌∙◌, arith, Option, Some, None}
use Rattle.std.specs.Char.Utf16.{is_low_surrogate, is_high_surrogate}
use Rattle.mql_tree.specs.Text.{front_len, lone_from, is_surrogate}

pub lone_end : (k : ℕ) (us : List ℕ) → length us ≡ 0 → lone_from k us ≡ None
unfolding lone_from
lone_end k [] h = refl
lone_end k (u ∷ us) h = absurd (omega arith)

alone : (b : Bool) (k : ℕ) (other : Option ℕ) → ◌≡◌ {A = ℕ} (cond b 0 1) 0 → cond b (Some k) other ≡ Some k
alone true k other h = refl
alone false k other h = absurd (omega arith)

paired : (p b : Bool) (k : ℕ) (after other : Option ℕ) → ◌≡◌ {A = ℕ} (cond p 2 (cond b 0 1)) 0 → cond p after (cond b (Some k) other) ≡ Some k
paired true b k after other h = absurd (omega arith)
paired false b k after other h = alone b k other h

pub lone_here : (k : ℕ) (us : List ℕ) → 0 < length us → front_len us ≡ 0 → lone_from k us ≡ Some k
unfolding lone_from
lone_here k [] h e = absurd (omega arith)
lone_here k (u ∷ []) h e = alone (is_surrogate u) k None e
lone_here k (u ∷ v ∷ us) h e = paired (is_high_surrogate u && is_low_surrogate v) (is_surrogate u) k (lone_from (k + 2) us) (lone_from (k + 1) (v ∷ us)) e

pub lone_on : (k : ℕ) (us : List ℕ) (n : ℕ) → n ≡ front_len us → 0 < n → lone_from (k + n) (drop n us) ≡ lone_from k us
unfolding lone_from
lone_on k [] n e h = absurd (omega arith)
lone_on k (u ∷ []) n e h =
    let none : Option ℕ = None in
    let P : Bool → Type 0 = λ b. n ≡ cond b 0 1 → lone_from (k + n) (drop n (u ∷ [])) ≡ cond b (Some k) none in
    (elim (is_surrogate u) as P [ true ↦ λ (q : n ≡ 0). absurd (omega arith) | false ↦ λ q. rw q refl ]) e
lone_on k (u ∷ v ∷ us) n e h =
    let P : Bool → Type 0 = λ b. n ≡ cond b 2 (cond (is_surrogate u) 0 1) → lone_from (k + n) (drop n (u ∷ v ∷ us)) ≡ cond b (lone_from (k + 2) us) (cond (is_surrogate u) (Some k) (lone_from (k + 1) (v ∷ us))) in
    let Q : Bool → Type 0 = λ b. n ≡ cond b 0 1 → lone_from (k + n) (drop n (u ∷ v ∷ us)) ≡ cond b (Some k) (lone_from (k + 1) (v ∷ us)) in
    (elim (is_high_surrogate u && is_low_surrogate v) as P [
      | true ↦ λ q. rw q refl
      | false ↦ elim (is_surrogate u) as Q [ true ↦ λ (q : n ≡ 0). absurd (omega arith) | false ↦ λ q. rw q refl ]
    ]) e

-- one step of the search
pub search_on : (place n whole : ℕ) (found : Option ℕ) (us rest : List ℕ) → (lone_from place us ≡ found) × (place + length us ≡ whole) → n ≡ front_len us → n ≤ length us → 0 < n → rest ≡ drop n us → (lone_from (place + n) rest ≡ found) × (place + n + length rest ≡ whole)
search_on place n whole found us rest i e le h r =
    (ap (lone_from (place + n)) r ∙ lone_on place us n e h ∙ i.0, let q : length rest ≡ length us - n = ap length r ∙ length-drop n us in omega arith)
