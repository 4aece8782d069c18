-- A number of digits before and behind a point, rounded past its eighth decimal.
use Rattle.std.proofs.Common.{◌≡◌, ℕ, zero, suc, ◌+◌, ◌-◌, ◌*◌, ◌^◌, ◌<◌, ◌≤◌, Bool, true, false, nat_le, if◌then◌else◌, List, [], ◌∷◌, ◌++◌, length, take, drop, get_or, pos, refl, sym, ap, ap₂, ◌∙◌, arith, take_all, length-append, ⊎_elim}
use Rattle.std.proofs.lemmas.Nat.{mul-le, pow-add}
use Rattle.std.proofs.lemmas.Int.{ints}
use Rattle.std.proofs.lemmas.Bool.{cases_lt, lt-leb, le-leb}
use Rattle.std.proofs.Math.Nat.{one-le-pow, mul_assoc}
use Rattle.std.proofs.Math.Seq.{drop-cons}
use Rattle.std.proofs.lemmas.List.{length-take-le, get_or_past, take-append-drop}
use Rattle.fx8.specs.Rounding.{nearest, signed, rounded}
use Rattle.fx8.specs.Doubles.{fits_double}
use Rattle.fx8.specs.Decimals.{is_digit, all_digits, number_after, number, units_of}
use Rattle.fx8.proofs.Digits.{nearest_is, nearest_exact, number_after_is, number_after_append, number_below, number_after_le, front_digit, rest_digits}

-- 1 where the ninth decimal is 5 or above
abbrev pub half : List ℕ → ℕ
half decimals = if nat_le 53 (get_or decimals 8 0) then 1 else 0

-- a * 10 + d, p times, and r more, in hundred millionths of 10 * p
spread_size : (a d p r : ℕ) → ((a * 10 + d) * p + r) * 100000000 ≡ 1000000000 * (a * p) + 100000000 * (d * p) + 100000000 * r
spread_size a d p r = grind arith

spread_step : (a h p : ℕ) → (a + h) * (1000000000 * p) ≡ 1000000000 * (a * p) + 1000000000 * (h * p)
spread_step a h p = grind arith

up : (a d p r : ℕ) → 5 ≤ d → d ≤ 9 → r < p → nearest (((a * 10 + d) * p + r) * 100000000) (1000000000 * p) ≡ a + 1
up a d p r low high small =
    nearest_is _ _ _ (omega (arith, small))
    (omega (arith, spread_size a d p r, spread_step a 1 p, mul-le 5 p d p low (omega arith)))
    (omega (arith, spread_size a d p r, spread_step a 1 p, mul-le d p 9 p high (omega arith), small))

down : (a d p r : ℕ) → d ≤ 4 → r < p → nearest (((a * 10 + d) * p + r) * 100000000) (1000000000 * p) ≡ a + 0
down a d p r high small =
    nearest_is _ _ _ (omega (arith, small))
    (omega (arith, spread_size a d p r, spread_step a 0 p))
    (omega (arith, spread_size a d p r, spread_step a 0 p, mul-le d p 4 p high (omega arith), small))

digit_most : (unit : ℕ) → is_digit unit ≡ true → unit - 48 ≤ 9
digit_most unit d = grind arith

by_digit : (a unit p r : ℕ) → is_digit unit ≡ true → r < p → nearest (((a * 10 + (unit - 48)) * p + r) * 100000000) (1000000000 * p) ≡ a + (if nat_le 53 unit then 1 else 0)
by_digit a unit p r d small =
    ⊎_elim
    (λ (l : unit < 53). rw (lt-leb 53 unit l) (down a (unit - 48) p r (omega (arith, l)) small))
    (λ (g : 53 ≤ unit). rw (le-leb 53 unit g) (up a (unit - 48) p r (omega (arith, g)) (digit_most unit d) small))
    (cases_lt unit 53)

-- the ninth of more than eight digits, and those behind it
next_drop : (i : ℕ) (xs : List ℕ) (x : ℕ) → x ∷ drop (suc i) xs ≡ x ∷ drop (i + 1) xs
next_drop i xs x = let e : suc i ≡ i + 1 = omega arith in ap (λ (j : ℕ). x ∷ drop j xs) e

apart : (i : ℕ) (xs : List ℕ) → i < length xs → xs ≡ take i xs ++ (get_or xs i 0 ∷ drop (i + 1) xs)
apart i xs h = sym (take-append-drop i xs) ∙ ap (λ (ys : List ℕ). take i xs ++ ys) (drop-cons xs i 0 h ∙ next_drop i xs (get_or xs i 0))

digit_at : (i : ℕ) (xs : List ℕ) → i < length xs → all_digits xs ≡ true → is_digit (get_or xs i 0) ≡ true
digit_at zero xs h d = front_digit xs (omega (arith, h)) d
digit_at (suc i) [] h d = absurd (omega (arith, h))
digit_at (suc i) (x ∷ xs) h d = digit_at i xs (omega (arith, h)) (rest_digits (x ∷ xs) (omega arith) d)

digits_dropped : (i : ℕ) (xs : List ℕ) → all_digits xs ≡ true → all_digits (drop i xs) ≡ true
digits_dropped zero xs d = d
digits_dropped (suc i) [] d = refl
digits_dropped (suc i) (x ∷ xs) d = digits_dropped i xs (rest_digits (x ∷ xs) (omega arith) d)

get_past : (i : ℕ) (xs : List ℕ) → length xs ≤ i → get_or xs i 0 ≡ 0
get_past i xs h = get_or_past xs i 0 h

few_places : (n k : ℕ) → k ≤ 8 → nearest (n * 10 ^ 8) (10 ^ k) ≡ n * 10 ^ (8 - k)
few_places n k h =
    let whole : 8 ≡ 8 - k + k = omega (arith, h) in
    let parts : 10 ^ 8 ≡ 10 ^ (8 - k) * 10 ^ k = ap (λ (m : ℕ). 10 ^ m) whole ∙ pow-add 10 (8 - k) k in
    let e : n * 10 ^ 8 ≡ n * 10 ^ (8 - k) * 10 ^ k = ap (λ (m : ℕ). n * m) parts ∙ sym (mul_assoc n (10 ^ (8 - k)) (10 ^ k)) in
    ap (λ (m : ℕ). nearest m (10 ^ k)) e ∙ nearest_exact (n * 10 ^ (8 - k)) (10 ^ k) (one-le-pow k 10 (omega arith))

many_places : (n : ℕ) (front rest : List ℕ) (unit : ℕ) → length front ≡ 8 → is_digit unit ≡ true → all_digits rest ≡ true
    → nearest (number_after n (front ++ (unit ∷ rest)) * 10 ^ 8) (10 ^ length (front ++ (unit ∷ rest))) ≡ number_after n front + (if nat_le 53 unit then 1 else 0)
many_places n front rest unit eight d ds =
    let a = number_after n front in
    let p = 10 ^ length rest in
    let value : number_after n (front ++ (unit ∷ rest)) ≡ (a * 10 + (unit - 48)) * p + number rest
    = number_after_append n front (unit ∷ rest) ∙ number_after_is (a * 10 + (unit - 48)) rest in
    let places : length (front ++ (unit ∷ rest)) ≡ 9 + length rest = length-append front (unit ∷ rest) ∙ omega (arith, eight) in
    let power : 10 ^ length (front ++ (unit ∷ rest)) ≡ 1000000000 * p = ap (λ (m : ℕ). 10 ^ m) places ∙ pow-add 10 9 (length rest) in
    ap₂ (λ (m q : ℕ). nearest (m * 10 ^ 8) q) value power ∙ by_digit a unit p (number rest) d (number_below rest ds)

-- the digits are worth what the first eight decimals are worth, rounded by the ninth
pub nearest_of_digits : (n : ℕ) (decimals : List ℕ) → all_digits decimals ≡ true
    → nearest (number_after n decimals * 10 ^ 8) (10 ^ length decimals) ≡ number_after n (take 8 decimals) * 10 ^ (8 - length (take 8 decimals)) + half decimals
nearest_of_digits n decimals d =
    ⊎_elim
    (λ (l : 8 < length decimals).
    let eight : length (take 8 decimals) ≡ 8 = length-take-le 8 decimals (omega (arith, l)) in
    let cut = apart 8 decimals l in
    let many = many_places n (take 8 decimals) (drop 9 decimals) (get_or decimals 8 0) eight (digit_at 8 decimals l d) (digits_dropped 9 decimals d) in
    ap (λ (xs : List ℕ). nearest (number_after n xs * 10 ^ 8) (10 ^ length xs)) cut ∙ many
    ∙ (rw eight (omega arith)))
    (λ (g : length decimals ≤ 8).
    let all : take 8 decimals ≡ decimals = take_all 8 decimals g in
    let none : half decimals ≡ 0 = ap (λ (u : ℕ). if nat_le 53 u then 1 else 0) (get_past 8 decimals g) in
    rw (all, none) (few_places (number_after n decimals) (length decimals) g ∙ omega arith))
    (cases_lt 8 (length decimals))

-- what stands in `units_of`
rounded_signed : (below : Bool) (n q : ℕ) → 0 < q → rounded (signed below n) (pos q) ≡ signed below (nearest n q)
unfolding rounded
rounded_signed false n q h = refl
rounded_signed true zero q h = let none : nearest 0 q ≡ 0 = nearest_is 0 q 0 h (omega arith) (omega (arith, h)) in rw none refl
rounded_signed true (suc n) q h = refl

pub units_are : (below : Bool) (whole decimals : List ℕ) → units_of below whole decimals ≡ signed below (nearest (number_after (number whole) decimals * 10 ^ 8) (10 ^ length decimals))
unfolding units_of
units_are below whole decimals =
    rounded_signed below (number (whole ++ decimals) * 10 ^ 8) (10 ^ length decimals) (one-le-pow (length decimals) 10 (omega arith))
    ∙ ap (λ (m : ℕ). signed below (nearest (m * 10 ^ 8) (10 ^ length decimals))) (number_after_append 0 whole decimals)

-- what the code makes of the digits
pub size_is : (below : Bool) (whole decimals : List ℕ) → all_digits decimals ≡ true
    → units_of below whole decimals ≡ signed below (number_after (number whole) (take 8 decimals) * 10 ^ (8 - length (take 8 decimals)) + half decimals)
size_is below whole decimals d = units_are below whole decimals ∙ ap (signed below) (nearest_of_digits (number whole) decimals d)

-- too many units for 64 bits
too_many : (below : Bool) (n : ℕ) → 2 ^ 64 ≤ n → fits_double (signed below n) ≡ false
unfolding fits_double
too_many false n h = grind (arith, ints)
too_many true n h = grind (arith, ints)

at_least : (n k : ℕ) → n ≤ n * 10 ^ k
at_least n k = omega (arith, mul-le n 1 n (10 ^ k) (omega arith) (one-le-pow k 10 (omega arith)))

pub large_front : (below : Bool) (whole decimals : List ℕ) → all_digits decimals ≡ true → 2 ^ 64 ≤ number_after (number whole) (take 8 decimals)
    → fits_double (units_of below whole decimals) ≡ false
large_front below whole decimals d h =
    let n = number_after (number whole) (take 8 decimals) in
    let k = 8 - length (take 8 decimals) in
    ap fits_double (size_is below whole decimals d) ∙ too_many below (n * 10 ^ k + half decimals) (omega (arith, h, at_least n k))

pub large_whole : (below : Bool) (whole decimals : List ℕ) → all_digits decimals ≡ true → 2 ^ 64 ≤ number whole
    → fits_double (units_of below whole decimals) ≡ false
large_whole below whole decimals d h = large_front below whole decimals d (omega (arith, h, number_after_le (number whole) (take 8 decimals)))
