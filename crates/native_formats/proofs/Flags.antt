-- Units at the beginning of a text.
use Rattle.std.proofs.Common.{◌≡◌, ℕ, suc, ◌+◌, ◌<◌, ◌≤◌, Bool, true, false, List, [], ◌∷◌, ◌++◌, length, get_or, take, drop, take_while, refl, sym, ap, ◌∙◌, arith, take-suc, drop-cons, add-one, append_assoc, append-nil, drop_of_length-le, take_all}
use Rattle.std.proofs.lemmas.List.Sums.{take_while-cons}
use Rattle.fx8.specs.Decimals.{is_digit}
use Rattle.mql_meaning.specs.Formats.{among, is_flag}

pub found : (unit : ℕ) (units : List ℕ) → 1 ≤ length units → unit ≡ get_or units 0 0 → among unit units ≡ true
found unit [] h e = absurd (omega arith)
found unit (x ∷ xs) h e = grind (arith, e)

pub not_first : (unit : ℕ) (units : List ℕ) → 1 ≤ length units → (unit ≡ get_or units 0 0 → ⊥)
    → among unit units ≡ among unit (drop 1 units)
not_first unit [] h e = absurd (omega arith)
not_first unit (x ∷ xs) h e = grind (arith, e)

pub nothing_left : (unit : ℕ) (units : List ℕ) → length units < 1 → among unit units ≡ false
nothing_left unit [] h = refl
nothing_left unit (x ∷ xs) h = absurd (omega arith)

front : (n : ℕ) (text : List ℕ) → n < length text → drop n text ≡ get_or text n 0 ∷ drop (n + 1) text
front n text h = rw add-one (drop-cons text n 0 h)

last : (n : ℕ) (text : List ℕ) → n < length text → take (n + 1) text ≡ take n text ++ (get_or text n 0 ∷ [])
last n text h = let e : n + 1 ≡ suc n = omega arith in ap (λ (k : ℕ). take k text) e ∙ take-suc text n 0 h

more : (p : ℕ → Bool) (n : ℕ) (text all : List ℕ) → n < length text → p (get_or text n 0) ≡ true
    → take n text ++ take_while p (drop n text) ≡ all → take (n + 1) text ++ take_while p (drop (n + 1) text) ≡ all
more p n text all h e i =
    let step : take_while p (drop n text) ≡ get_or text n 0 ∷ take_while p (drop (n + 1) text) =
    ap (take_while p) (front n text h) ∙ take_while-cons p (get_or text n 0) (drop (n + 1) text) ∙ rw e refl in
    ap (λ (xs : List ℕ). xs ++ take_while p (drop (n + 1) text)) (last n text h)
    ∙ append_assoc (take n text) (get_or text n 0 ∷ []) (take_while p (drop (n + 1) text))
    ∙ sym (ap (λ (xs : List ℕ). take n text ++ xs) step) ∙ i

ends : (p : ℕ → Bool) (n : ℕ) (text all : List ℕ) → n < length text → p (get_or text n 0) ≡ false
    → take n text ++ take_while p (drop n text) ≡ all → take n text ≡ all
ends p n text all h e i =
    let step : take_while p (drop n text) ≡ [] =
    ap (take_while p) (front n text h) ∙ take_while-cons p (get_or text n 0) (drop (n + 1) text) ∙ rw e refl in
    sym (append-nil (take n text)) ∙ sym (ap (λ (xs : List ℕ). take n text ++ xs) step) ∙ i

every : (p : ℕ → Bool) (n : ℕ) (text all : List ℕ) → length text ≤ n
    → take n text ++ take_while p (drop n text) ≡ all → text ≡ all
every p n text all h i =
    let none : take_while p (drop n text) ≡ [] = ap (take_while p) (drop_of_length-le text h) in
    sym (take_all n text h) ∙ sym (append-nil (take n text)) ∙ sym (ap (λ (xs : List ℕ). take n text ++ xs) none) ∙ i

pub one_flag : (n : ℕ) (text all : List ℕ) → n < length text → is_flag (get_or text n 0) ≡ true
    → take n text ++ take_while is_flag (drop n text) ≡ all → take (n + 1) text ++ take_while is_flag (drop (n + 1) text) ≡ all
one_flag = more is_flag

pub flags_end : (n : ℕ) (text all : List ℕ) → n < length text → is_flag (get_or text n 0) ≡ false
    → take n text ++ take_while is_flag (drop n text) ≡ all → take n text ≡ all
flags_end = ends is_flag

pub all_flags : (n : ℕ) (text all : List ℕ) → length text ≤ n
    → take n text ++ take_while is_flag (drop n text) ≡ all → text ≡ all
all_flags = every is_flag

pub one_digit : (n : ℕ) (text all : List ℕ) → n < length text → is_digit (get_or text n 0) ≡ true
    → take n text ++ take_while is_digit (drop n text) ≡ all → take (n + 1) text ++ take_while is_digit (drop (n + 1) text) ≡ all
one_digit = more is_digit

pub digits_end : (n : ℕ) (text all : List ℕ) → n < length text → is_digit (get_or text n 0) ≡ false
    → take n text ++ take_while is_digit (drop n text) ≡ all → take n text ≡ all
digits_end = ends is_digit

pub all_digits : (n : ℕ) (text all : List ℕ) → length text ≤ n
    → take n text ++ take_while is_digit (drop n text) ≡ all → text ≡ all
all_digits = every is_digit
