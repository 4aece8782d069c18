-- Parts of lists.
use Rattle.std.proofs.Common.{append_assoc, ◌≡◌, ℕ, suc, ◌+◌, ◌-◌, ◌<◌, ◌≤◌, List, [], ◌∷◌, ◌++◌, length, get_or, take, drop, replicate, refl, sym, ap, ◌∙◌, arith, take_all, length-drop, drop_of_length-le}
use Rattle.std.proofs.lemmas.List.{drop-drop, replicate-append-replicate}

pub behind_is : (place : ℕ) (text : List ℕ) → take (length text - place) (drop place text) ≡ drop place text
behind_is place text = take_all (length text - place) (drop place text) (omega (arith, length-drop place text))

pub behind_end : (place : ℕ) (text : List ℕ) → length text ≤ place → drop place text ≡ []
behind_end place text h = drop_of_length-le text h

pub one_behind : (place : ℕ) (text : List ℕ) → drop 1 (drop place text) ≡ drop (place + 1) text
one_behind place text = drop-drop 1 place text

pub one_more : (out : List ℕ) (n unit : ℕ) → (out ++ replicate n unit) ++ (unit ∷ []) ≡ out ++ replicate (n + 1) unit
one_more out n unit = append_assoc out (replicate n unit) (unit ∷ []) ∙ ap (λ (xs : List ℕ). out ++ xs) (replicate-append-replicate n 1 unit)
