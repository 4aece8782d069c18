-- How pieces are cut.
use Rattle.std.proofs.Common.{◌≡◌, ℕ, zero, suc, ◌+◌, ◌-◌, ◌<◌, ◌≤◌, Bool, true, false, List, [], ◌∷◌, ◌++◌, take, drop, length, get_or, append_assoc, append-nil, refl, sym, ap, ◌∙◌, arith, if◌then◌else◌}
use Rattle.std.proofs.lemmas.List.{map_push, take_more, get_or-drop, length-drop, take_all, drop_all}
use Rattle.mql_views.specs.Parts.{Part}
use Rattle.mql_views.specs.Seen.{part_seen, seen}
use Rattle.mql_views.specs.declared.part.Part.{Part as CodePart}
use Rattle.mql_syntax.specs.Lists.{divides, enclosed, last_piece, pieces_from}

pub at_comma : (f : List (List Part)) (inside : Bool) (front : List Part) (x : Part) (xs : List Part) → true ≡ divides inside x → f ++ pieces_from inside front (x ∷ xs) ≡ (f ++ front ∷ []) ++ pieces_from inside [] xs
unfolding pieces_from
at_comma f inside front x xs e =
    ap (λ b. f ++ (if b then front ∷ pieces_from inside [] xs else pieces_from (enclosed inside x) (front ++ x ∷ []) xs)) (sym e)
    ∙ sym (append_assoc f (front ∷ []) (pieces_from inside [] xs))

pub at_other : (f : List (List Part)) (inside : Bool) (front : List Part) (x : Part) (xs : List Part) → false ≡ divides inside x → f ++ pieces_from inside front (x ∷ xs) ≡ f ++ pieces_from (enclosed inside x) (front ++ x ∷ []) xs
unfolding pieces_from
at_other f inside front x xs e =
    ap (λ b. f ++ (if b then front ∷ pieces_from inside [] xs else pieces_from (enclosed inside x) (front ++ x ∷ []) xs)) (sym e)

-- the stretch from a place on has one more part
pub stretch_more : (xs : List CodePart) (s i : ℕ) (x : CodePart) → s ≤ i → i < length xs → x ≡ get_or xs i x → take (i + 1 - s) (drop s xs) ≡ take (i - s) (drop s xs) ++ x ∷ []
stretch_more xs s i x h l e =
    let n : i + 1 - s ≡ (i - s) + 1 = omega arith in
    let m : s + (i - s) ≡ i = omega arith in
    let len : i - s < length (drop s xs) = rw length-drop (omega arith) in
    ap (λ k. take k (drop s xs)) n
    ∙ take_more (drop s xs) (i - s) x len
    ∙ ap (λ y. take (i - s) (drop s xs) ++ y ∷ []) (get_or-drop s xs (i - s) x ∙ ap (λ k. get_or xs k x) m ∙ sym e)

pub stretch_seen : (xs : List CodePart) (s i : ℕ) (x : CodePart) → s ≤ i → i < length xs → x ≡ get_or xs i x → seen (take (i + 1 - s) (drop s xs)) ≡ seen (take (i - s) (drop s xs)) ++ part_seen x ∷ []
stretch_seen xs s i x h l e = ap seen (stretch_more xs s i x h l e) ∙ map_push part_seen (take (i - s) (drop s xs)) x

last_there : (xs : List CodePart) (s : ℕ) → s < length xs → last_piece (seen (drop s xs)) ≡ seen (drop s xs) ∷ []
last_there [] s h = absurd (omega arith)
last_there (x ∷ xs) zero h = refl
last_there (x ∷ xs) (suc s) h = last_there xs s (omega arith)

-- behind the last part stands a last piece, or none
pub ends_with : (f : List (List Part)) (inside : Bool) (xs : List CodePart) (s i : ℕ) → length xs ≤ i → s < length xs → f ++ pieces_from inside (seen (take (i - s) (drop s xs))) (seen (drop i xs)) ≡ f ++ seen (drop s xs) ∷ []
unfolding pieces_from
ends_with f inside xs s i h l =
    let n : length (drop s xs) ≤ i - s = rw length-drop (omega arith) in
    ap (λ r. f ++ pieces_from inside (seen (take (i - s) (drop s xs))) (seen r)) (drop_all i xs h)
    ∙ ap (λ y. f ++ last_piece (seen y)) (take_all (i - s) (drop s xs) n)
    ∙ ap (λ y. f ++ y) (last_there xs s l)

pub ends_without : (f : List (List Part)) (inside : Bool) (xs : List CodePart) (s i : ℕ) → length xs ≤ i → length xs ≤ s → f ++ pieces_from inside (seen (take (i - s) (drop s xs))) (seen (drop i xs)) ≡ f
unfolding pieces_from
ends_without f inside xs s i h l =
    let n : length (drop s xs) ≤ i - s = rw length-drop (omega arith) in
    ap (λ r. f ++ pieces_from inside (seen (take (i - s) (drop s xs))) (seen r)) (drop_all i xs h)
    ∙ ap (λ y. f ++ last_piece (seen y)) (take_all (i - s) (drop s xs) n ∙ drop_all s xs l)
    ∙ append-nil f
