-- How a part is looked for.
use Rattle.std.proofs.Common.{◌≡◌, ℕ, suc, ◌+◌, ◌-◌, ◌<◌, ◌≤◌, true, false, List, [], ◌∷◌, length, get_or, drop, Option, Some, None, refl, sym, ap, ◌∙◌, arith, length-drop}
use Rattle.mql_meaning.specs.StringFunctions.{begins, find_from}
use Rattle.native_strings.proofs.Lists.{behind_end, one_behind}

pub same_unit : (part text : List ℕ) → 1 ≤ length part → 1 ≤ length text → get_or part 0 0 ≡ get_or text 0 0
    → begins part text ≡ begins (drop 1 part) (drop 1 text)
same_unit [] text h i e = absurd (omega arith)
same_unit (x ∷ xs) [] h i e = absurd (omega arith)
same_unit (x ∷ xs) (y ∷ ys) h i e = grind (arith, e)

pub other_unit : (part text : List ℕ) → 1 ≤ length part → 1 ≤ length text → (get_or part 0 0 ≡ get_or text 0 0 → ⊥)
    → begins part text ≡ false
other_unit [] text h i e = absurd (omega arith)
other_unit (x ∷ xs) [] h i e = absurd (omega arith)
other_unit (x ∷ xs) (y ∷ ys) h i e = grind (arith, e)

pub text_ends : (part text : List ℕ) → 1 ≤ length part → length text < 1 → begins part text ≡ false
text_ends [] text h i = absurd (omega arith)
text_ends (x ∷ xs) [] h i = refl
text_ends (x ∷ xs) (y ∷ ys) h i = absurd (omega arith)

pub part_ends : (part text : List ℕ) → length part < 1 → begins part text ≡ true
part_ends [] text h = refl
part_ends (x ∷ xs) text h = absurd (omega arith)

pub part_fits : (part text : List ℕ) → begins part text ≡ true → length part ≤ length text
part_fits [] text e = omega arith
part_fits (x ∷ xs) [] e = grind arith
part_fits (x ∷ xs) (y ∷ ys) e = grind (arith, part_fits xs ys)

here : (place : ℕ) (part text : List ℕ) → 0 < length text → begins part text ≡ true → find_from place part text ≡ Some place
here place part [] h e = absurd (omega arith)
here place part (u ∷ us) h e = rw (find_from, e) refl

later : (place : ℕ) (part text : List ℕ) → 0 < length text → begins part text ≡ false
    → find_from place part text ≡ find_from (place + 1) part (drop 1 text)
later place part [] h e = absurd (omega arith)
later place part (u ∷ us) h e = rw (find_from, e) refl

pub found_here : (place : ℕ) (part text : List ℕ) → place < length text → begins part (drop place text) ≡ true
    → find_from place part (drop place text) ≡ Some place
found_here place part text h e = here place part (drop place text) (omega (arith, length-drop place text, h)) e

pub found_later : (place : ℕ) (part text : List ℕ) → place < length text → begins part (drop place text) ≡ false
    → find_from place part (drop place text) ≡ find_from (place + 1) part (drop (place + 1) text)
found_later place part text h e =
    later place part (drop place text) (omega (arith, length-drop place text, h)) e
    ∙ ap (λ (xs : List ℕ). find_from (place + 1) part xs) (one_behind place text)

pub found_at_end : (place : ℕ) (part text : List ℕ) → length text ≤ place → begins part [] ≡ true
    → find_from place part (drop place text) ≡ Some place
found_at_end place part text h e = rw (behind_end place text h, e) refl

pub found_nowhere : (place : ℕ) (part text : List ℕ) → length text ≤ place → begins part [] ≡ false
    → find_from place part (drop place text) ≡ None
found_nowhere place part text h e = rw (behind_end place text h, e) refl
