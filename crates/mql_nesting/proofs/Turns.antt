-- A turn that adds nothing is the last.
use Rattle.std.proofs.Common.{◌≡◌, ◌≤◌, ◌+◌, ℕ, zero, suc, Bool, true, false, length, length-append, List, [], ◌∷◌, ◌++◌, refl, sym, ap, ◌∙◌, arith, if◌then◌else◌}
use Rattle.std.specs.List.{flat_map}
use Rattle.mql_names.specs.Scopes.{Name, is_among}
use Rattle.mql_nesting.specs.declared.structure.Structure.{Structure}
use Rattle.mql_nesting.specs.Nesting.{parts_of, joined, grown, within}

longer : (xs ys : List Name) → length xs ≤ length (joined xs ys)
longer xs [] = omega arith
longer xs (y ∷ ys) = either (is_among y xs) (longer xs ys) (longer (xs ++ y ∷ []) ys)
  where
    either : (b : Bool) → length xs ≤ length (joined xs ys) → length (xs ++ y ∷ []) ≤ length (joined (xs ++ y ∷ []) ys)
        → length xs ≤ length (joined (if b then xs else xs ++ y ∷ []) ys)
    either true h k = h
    either false h k = let g = length-append xs (y ∷ []) in omega (arith, g, k)

nothing_joined : (xs ys : List Name) → length (joined xs ys) ≡ length xs → joined xs ys ≡ xs
nothing_joined xs [] e = refl
nothing_joined xs (y ∷ ys) e = either (is_among y xs) (nothing_joined xs ys) (longer (xs ++ y ∷ []) ys) e
  where
    either : (b : Bool) → (length (joined xs ys) ≡ length xs → joined xs ys ≡ xs) → length (xs ++ y ∷ []) ≤ length (joined (xs ++ y ∷ []) ys)
        → length (joined (if b then xs else xs ++ y ∷ []) ys) ≡ length xs → joined (if b then xs else xs ++ y ∷ []) ys ≡ xs
    either true h k e = h e
    either false h k e = let g = length-append xs (y ∷ []) in absurd (omega (arith, g, k, e))

same_within : (ss : List Structure) (n : ℕ) (xs : List Name) → grown ss xs ≡ xs → within ss n xs ≡ xs
same_within ss zero xs h = refl
same_within ss (suc n) xs h = ap (within ss n) h ∙ same_within ss n xs h

-- a turn that is as long as what it began with is all that so many turns find
pub last_turn : (ss : List Structure) (n : ℕ) (xs ys : List Name) → ys ≡ grown ss xs → length ys ≡ length xs → ys ≡ within ss n xs
last_turn ss n xs ys g e =
    let same : grown ss xs ≡ xs = nothing_joined xs (flat_map (parts_of ss) xs) (ap length (sym g) ∙ e) in
    g ∙ same ∙ sym (same_within ss n xs same)
