-- Blanks at the ends of a text.
use Rattle.std.proofs.Common.{◌≡◌, ℕ, suc, ◌+◌, ◌-◌, ◌<◌, ◌≤◌, true, false, List, [], ◌∷◌, ◌++◌, length, get_or, take, drop, reverse, take_while, refl, sym, ap, ◌∙◌, arith, take-suc}
use Rattle.std.proofs.lemmas.List.{reverse-append, reverse-reverse}
use Rattle.std.proofs.lemmas.List.Sums.{take_while-cons}
use Rattle.mql_meaning.specs.StringFunctions.{is_space, trimmed_left, trimmed_right}

space : (u : ℕ) (us : List ℕ) → is_space u ≡ true → trimmed_left (u ∷ us) ≡ trimmed_left us
space u us e =
    let all : take_while is_space (u ∷ us) ≡ u ∷ take_while is_space us = take_while-cons is_space u us ∙ rw e refl in
    ap (λ (xs : List ℕ). drop (length xs) (u ∷ us)) all

other : (u : ℕ) (us : List ℕ) → is_space u ≡ false → trimmed_left (u ∷ us) ≡ u ∷ us
other u us e =
    let none : take_while is_space (u ∷ us) ≡ [] = take_while-cons is_space u us ∙ rw e refl in
    ap (λ (xs : List ℕ). drop (length xs) (u ∷ us)) none

pub space_first : (text : List ℕ) → 1 ≤ length text → is_space (get_or text 0 0) ≡ true
    → trimmed_left text ≡ trimmed_left (drop 1 text)
space_first [] h e = absurd (omega arith)
space_first (u ∷ us) h e = space u us e

pub other_first : (text : List ℕ) → 1 ≤ length text → is_space (get_or text 0 0) ≡ false → trimmed_left text ≡ text
other_first [] h e = absurd (omega arith)
other_first (u ∷ us) h e = other u us e

pub nothing_first : (text : List ℕ) → length text < 1 → trimmed_left text ≡ text
nothing_first [] h = refl
nothing_first (u ∷ us) h = absurd (omega arith)

last : (n : ℕ) (text : List ℕ) → n < length text → take (n + 1) text ≡ take n text ++ (get_or text n 0 ∷ [])
last n text h = let e : n + 1 ≡ suc n = omega arith in ap (λ (k : ℕ). take k text) e ∙ take-suc text n 0 h

turned : (n : ℕ) (text : List ℕ) → n < length text → reverse (take (n + 1) text) ≡ get_or text n 0 ∷ reverse (take n text)
turned n text h = ap reverse (last n text h) ∙ reverse-append (take n text) (get_or text n 0 ∷ [])

space_at : (n : ℕ) (text : List ℕ) → n < length text → is_space (get_or text n 0) ≡ true
    → trimmed_right (take (n + 1) text) ≡ trimmed_right (take n text)
space_at n text h e =
    ap (λ (xs : List ℕ). reverse (trimmed_left xs)) (turned n text h)
    ∙ ap reverse (space (get_or text n 0) (reverse (take n text)) e)

other_at : (n : ℕ) (text : List ℕ) → n < length text → is_space (get_or text n 0) ≡ false
    → trimmed_right (take (n + 1) text) ≡ take (n + 1) text
other_at n text h e =
    ap (λ (xs : List ℕ). reverse (trimmed_left xs)) (turned n text h)
    ∙ ap reverse (other (get_or text n 0) (reverse (take n text)) e)
    ∙ ap reverse (sym (turned n text h)) ∙ reverse-reverse (take (n + 1) text)

pub space_last : (end : ℕ) (text : List ℕ) → 0 < end → end ≤ length text → is_space (get_or text (end - 1) 0) ≡ true
    → trimmed_right (take end text) ≡ trimmed_right (take (end - 1) text)
space_last end text some h e =
    let back : end - 1 + 1 ≡ end = omega (arith, some) in
    ap (λ (k : ℕ). trimmed_right (take k text)) (sym back) ∙ space_at (end - 1) text (omega (arith, some, h)) e

pub other_last : (end : ℕ) (text : List ℕ) → 0 < end → end ≤ length text → is_space (get_or text (end - 1) 0) ≡ false
    → trimmed_right (take end text) ≡ take end text
other_last end text some h e =
    let back : end - 1 + 1 ≡ end = omega (arith, some) in
    ap (λ (k : ℕ). trimmed_right (take k text)) (sym back) ∙ other_at (end - 1) text (omega (arith, some, h)) e
    ∙ ap (λ (k : ℕ). take k text) back
