-- What digits are worth, and how a number is rounded past its eighth decimal.
use Rattle.std.proofs.Common.{◌≡◌, ℕ, zero, suc, ◌+◌, ◌-◌, ◌*◌, ◌/◌, ◌^◌, ◌<◌, ◌≤◌, true, false, List, [], ◌∷◌, ◌++◌, length, take, drop, get_or, refl, sym, ap, ◌∙◌, arith, lit<, take_all, length-drop}
use Rattle.std.proofs.lemmas.Nat.{mul-le, div-mul-add}
use Rattle.std.proofs.Math.Nat.{pow-suc}
use Rattle.fx8.specs.Rounding.{nearest}
use Rattle.fx8.specs.Decimals.{is_digit, all_digits, are_digits, number_after, number}

spread : (k q : ℕ) → k * (2 * q) ≡ 2 * (k * q)
spread k q = grind arith

-- the nearest number is the one within half of a divisor
pub nearest_is : (n q k : ℕ) → 0 < q → 2 * (k * q) ≤ 2 * n + q → 2 * n < 2 * (k * q) + q → nearest n q ≡ k
nearest_is n q k some low high =
    let e : k * (2 * q) + (2 * n + q - k * (2 * q)) ≡ 2 * n + q = omega (arith, spread k q, low) in
    let small : 2 * n + q - k * (2 * q) < 2 * q = omega (arith, spread k q, low, high) in
    ap (λ (m : ℕ). m / (2 * q)) (sym e) ∙ div-mul-add k (2 * q) (2 * n + q - k * (2 * q)) small

pub nearest_exact : (m q : ℕ) → 0 < q → nearest (m * q) q ≡ m
nearest_exact m q some = nearest_is (m * q) q m some (omega arith) (omega arith)

-- digits after a number
push_step : (n d p r : ℕ) → (n * 10 + d) * p + r ≡ n * (p * 10) + (d * p + r)
push_step n d p r = grind arith

ten_more : (k : ℕ) → 10 ^ suc k ≡ 10 ^ k * 10
ten_more k = pow-suc 10 k

number_head : (unit : ℕ) (text : List ℕ) → number (unit ∷ text) ≡ number_after (unit - 48) text
number_head unit text = ap (λ (m : ℕ). number_after m text) (omega arith)

pub number_after_is : (n : ℕ) (text : List ℕ) → number_after n text ≡ n * 10 ^ length text + number text
number_after_is n [] = omega arith
number_after_is n (unit ∷ text) =
    let d = unit - 48 in
    let whole = number_after_is (n * 10 + d) text in
    let alone = number_after_is d text in
    let step = push_step n d (10 ^ length text) (number text) in
    let p : n * 10 ^ suc (length text) ≡ n * (10 ^ length text * 10) = ap (λ (m : ℕ). n * m) (ten_more (length text)) in
    let first : number (unit ∷ text) ≡ d * 10 ^ length text + number text = number_head unit text ∙ alone in
    let all : number_after n (unit ∷ text) ≡ (n * 10 + d) * 10 ^ length text + number text = whole in
    omega (arith, all, step, p, first)

pub number_after_append : (n : ℕ) (front rest : List ℕ) → number_after n (front ++ rest) ≡ number_after (number_after n front) rest
number_after_append n [] rest = refl
number_after_append n (unit ∷ front) rest = number_after_append (n * 10 + (unit - 48)) front rest

digit_small : (unit : ℕ) → is_digit unit ≡ true → unit - 48 ≤ 9
digit_small unit d = grind arith

pub digits_head : (unit : ℕ) (text : List ℕ) → all_digits (unit ∷ text) ≡ true → (is_digit unit ≡ true) × (all_digits text ≡ true)
digits_head unit text d = grind arith

below_step : (d p m : ℕ) → d ≤ 9 → m < p → d * p + m < p * 10
below_step d p m h l = omega (arith, mul-le d p 9 p h (omega arith))

pub number_below : (text : List ℕ) → all_digits text ≡ true → number text < 10 ^ length text
number_below [] d = lit< tt
number_below (unit ∷ text) d =
    let p = digits_head unit text d in
    let rest = number_below text p.1 in
    let first : number (unit ∷ text) ≡ (unit - 48) * 10 ^ length text + number text = number_head unit text ∙ number_after_is (unit - 48) text in
    let below = below_step (unit - 48) (10 ^ length text) (number text) (digit_small unit p.0) rest in
    let goal : number (unit ∷ text) < 10 ^ suc (length text) = rw (ten_more (length text)) (omega (arith, first, below)) in
    goal

-- how a text of digits is looked through
pub some_are : (text : List ℕ) → 0 < length text → are_digits text ≡ all_digits text
some_are [] h = absurd (omega arith)
some_are (unit ∷ text) h = refl

pub head_not_digit : (text : List ℕ) → 1 ≤ length text → is_digit (get_or text 0 0) ≡ false → all_digits text ≡ false
head_not_digit [] h d = absurd (omega arith)
head_not_digit (unit ∷ text) h d = rw d refl

pub head_digit : (text : List ℕ) → 1 ≤ length text → is_digit (get_or text 0 0) ≡ true → all_digits text ≡ all_digits (drop 1 text)
head_digit [] h d = absurd (omega arith)
head_digit (unit ∷ text) h d = rw d refl

pub no_digits_left : (text : List ℕ) → length text < 1 → all_digits text ≡ true
no_digits_left [] h = refl
no_digits_left (unit ∷ text) h = absurd (omega arith)

pub front_digit : (text : List ℕ) → 1 ≤ length text → all_digits text ≡ true → is_digit (get_or text 0 0) ≡ true
front_digit [] h d = absurd (omega arith)
front_digit (unit ∷ text) h d = (digits_head unit text d).0

pub rest_digits : (text : List ℕ) → 1 ≤ length text → all_digits text ≡ true → all_digits (drop 1 text) ≡ true
rest_digits [] h d = absurd (omega arith)
rest_digits (unit ∷ text) h d = (digits_head unit text d).1

pub number_after_le : (n : ℕ) (text : List ℕ) → n ≤ number_after n text
number_after_le n [] = omega arith
number_after_le n (unit ∷ text) = let more = number_after_le (n * 10 + (unit - 48)) text in omega (arith, more)

pub number_step : (n : ℕ) (text : List ℕ) → 1 ≤ length text → number_after n text ≡ number_after (n * 10 + (get_or text 0 0 - 48)) (drop 1 text)
number_step n [] h = absurd (omega arith)
number_step n (unit ∷ text) h = refl

pub number_grows : (n bound : ℕ) (text : List ℕ) → 1 ≤ length text → bound ≤ n * 10 + (get_or text 0 0 - 48) → bound ≤ number_after n text
number_grows n bound [] h l = absurd (omega arith)
number_grows n bound (unit ∷ text) h l = let more = number_after_le (n * 10 + (unit - 48)) text in omega (arith, more, l)

pub number_end : (n : ℕ) (text : List ℕ) → length text < 1 → number_after n text ≡ n
number_end n [] h = refl
number_end n (unit ∷ text) h = absurd (omega arith)

pub behind_is : (n : ℕ) (text : List ℕ) → take (length text - n) (drop n text) ≡ drop n text
behind_is n text = take_all (length text - n) (drop n text) (omega (arith, length-drop n text))

pub all_are : (text : List ℕ) → are_digits text ≡ true → all_digits text ≡ true
all_are [] d = refl
all_are (unit ∷ text) d = d

pub digits_taken : (i : ℕ) (text : List ℕ) → all_digits text ≡ true → all_digits (take i text) ≡ true
digits_taken zero text d = refl
digits_taken (suc i) [] d = refl
digits_taken (suc i) (unit ∷ text) d = let p = digits_head unit text d in rw (p.0, digits_taken i text p.1) refl
