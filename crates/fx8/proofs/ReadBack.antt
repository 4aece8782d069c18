-- What is written for a double reads to the same double.
use Rattle.std.proofs.Common.{◌≡◌, ℕ, zero, suc, ◌+◌, ◌-◌, ◌*◌, ◌/◌, ◌%◌, ◌^◌, ◌<◌, ◌≤◌, Bool, true, false, ◌==◌, nat_lt, List, [], ◌∷◌, ◌++◌, length, drop, ℤ, pos, negsuc, decimal, unsigned_abs, Some, FitsSigned, refl, sym, ap, ◌∙◌, arith, ⊎_elim, length-append}
use Rattle.std.specs.Prelude.{position}
use Rattle.std.specs.List.{position_or_len}
use Rattle.std.specs.Int.{w64}
use Rattle.std.proofs.lemmas.Bool.{cases_Bool, lt-ltb, eqb-true}
use Rattle.std.proofs.lemmas.Fmt.{decimal_by_steps}
use Rattle.std.proofs.lemmas.Int.{ints}
use Rattle.std.proofs.lemmas.Nat.{div-add-mod', mod_below, div_below, pow-add}
use Rattle.std.proofs.Math.Nat.{one-le-pow, pow-suc, mul_assoc}
use Rattle.std.proofs.Math.Seq.{take-append_seam, drop-append-add}
use Rattle.fx8.specs.Rounding.{signed, is_below_zero, nearest}
use Rattle.fx8.specs.Doubles.{fits_double}
use Rattle.fx8.specs.Decimals.{is_digit, all_digits, are_digits, number_after, number, units_of, unsigned_value, has_minus, double_of_text, decimals, text_of}
use Rattle.fx8.proofs.Digits.{digits_head, some_are, number_after_append, nearest_exact}
use Rattle.fx8.proofs.Places.{units_are}

-- a text of digits that is worth n
pub record Says (n : ℕ) (text : List ℕ) : Type 0 where
  pub some : 0 < length text
  pub digits : all_digits text ≡ true
  pub worth : number text ≡ n

all_digits_append : (front rest : List ℕ) → all_digits front ≡ true → all_digits rest ≡ true → all_digits (front ++ rest) ≡ true
all_digits_append [] rest f r = r
all_digits_append (unit ∷ front) rest f r =
    let p = digits_head unit front f in
    rw (p.0, all_digits_append front rest p.1 r) refl

digit_is : (n : ℕ) → n < 10 → is_digit (48 + n) ≡ true
digit_is n h = grind arith

one_digit : (n : ℕ) → n < 10 → Says n ((48 + n) ∷ [])
one_digit n h = record { some = omega arith; digits = rw (digit_is n h) refl; worth = omega arith }

more_digits : (n : ℕ) (ds : List ℕ) → 10 ≤ n → Says (n / 10) ds → Says n (ds ++ ((48 + n % 10) ∷ []))
more_digits n ds h s =
    let d : is_digit (48 + n % 10) ≡ true = digit_is (n % 10) (mod_below n 10 (omega arith)) in
    record {
      some = rw (length-append ds ((48 + n % 10) ∷ [])) (omega arith);
      digits = all_digits_append ds ((48 + n % 10) ∷ []) s.digits (rw d refl);
      worth = number_after_append 0 ds ((48 + n % 10) ∷ []) ∙ (let w = s.worth in let whole = div-add-mod' n 10 in omega (arith, w, whole));
    }

decimal_says : (n : ℕ) → n < 2 ^ 64 → Says n (decimal n)
decimal_says n h = decimal_by_steps Says one_digit more_digits n h

-- digits behind a number m that are worth n / 10 ^ k, in no more than k places
pub record Goes (k m n : ℕ) (text : List ℕ) : Type 0 where
  pub left : ℕ
  pub places : length text + left ≡ k
  pub digits : all_digits text ≡ true
  pub worth : number_after m text * 10 ^ left ≡ m * 10 ^ k + n

shift : (d : ℕ) → 48 + d - 48 ≡ d
shift d = omega arith

last_decimal : (m d q n r : ℕ) → d * q + r ≡ n → r ≡ 0 → (m * 10 + d) * q ≡ m * (q * 10) + n
last_decimal m d q n r e none = let turned : (m * 10 + d) * q ≡ m * (q * 10) + d * q = grind arith in omega (arith, turned, e, none)

more_decimals : (m d q n r : ℕ) → d * q + r ≡ n → (m * 10 + d) * q + r ≡ m * (q * 10) + n
more_decimals m d q n r e = let turned : (m * 10 + d) * q ≡ m * (q * 10) + d * q = grind arith in omega (arith, turned, e)

below_ten : (n q : ℕ) → 0 < q → n < q * 10 → n / q < 10
below_ten n q some h = div_below n q 10 some (omega (arith, h))

goes_on : (k m d n r : ℕ) (text : List ℕ) → d < 10 → d * 10 ^ k + r ≡ n → Goes k (m * 10 + d) r text → Goes (suc k) m n ((48 + d) ∷ text)
goes_on k m d n r text small e g =
    record {
      left = g.left;
      places = omega (arith, g.places);
      digits = rw (digit_is d small, g.digits) refl;
      worth = ap (λ (x : ℕ). number_after (m * 10 + x) text * 10 ^ g.left) (shift d) ∙ g.worth ∙ more_decimals m d (10 ^ k) n r e ∙ ap (λ (x : ℕ). m * x + n) (sym (pow-suc 10 k));
    }

decimals_go : (k m n : ℕ) → n < 10 ^ k → Goes k m n (decimals k n)
unfolding decimals
decimals_go zero m n h = record { left = 0; places = refl; digits = refl; worth = omega (arith, h) }
decimals_go (suc k) m n h =
    let q = 10 ^ k in
    let some : 0 < q = one-le-pow k 10 (omega arith) in
    let next : 10 ^ suc k ≡ q * 10 = pow-suc 10 k in
    let small : n < q * 10 = omega (arith, h, next) in
    let d = below_ten n q some small in
    let whole = div-add-mod' n q in
    ⊎_elim
    (λ (z : (n % q == 0) ≡ true).
    rw z (record {
      left = k;
      places = omega arith;
      digits = rw (digit_is (n / q) d) refl;
      worth = rw (shift (n / 10 ^ k), next) (last_decimal m (n / q) q n (n % q) whole (eqb-true (n % q) 0 z));
    }))
    (λ (z : (n % q == 0) ≡ false).
    rw z (goes_on k m (n / q) n (n % q) (decimals k (n % q)) d whole (decimals_go k (m * 10 + n / q) (n % q) (mod_below n q some))))
    (cases_Bool (n % q == 0))

-- the digits before and behind the point are worth the double
exact_units : (below : Bool) (size : ℕ) (whole text : List ℕ) → number whole ≡ size / 10 ^ 8 → Goes 8 (number whole) (size % 10 ^ 8) text → units_of below whole text ≡ signed below size
exact_units below size whole text w g =
    let value : number_after (number whole) text * 10 ^ g.left ≡ size = g.worth ∙ (let e = div-add-mod' size (10 ^ 8) in omega (arith, w, e)) in
    let eight : g.left + length text ≡ 8 = omega (arith, g.places) in
    let power : 10 ^ 8 ≡ 10 ^ g.left * 10 ^ length text = ap (λ (k : ℕ). 10 ^ k) (sym eight) ∙ pow-add 10 g.left (length text) in
    let whole_size : number_after (number whole) text * 10 ^ 8 ≡ size * 10 ^ length text
    = ap (λ (k : ℕ). number_after (number whole) text * k) power ∙ sym (mul_assoc (number_after (number whole) text) (10 ^ g.left) (10 ^ length text)) ∙ ap (λ (k : ℕ). k * 10 ^ length text) value in
    units_are below whole text ∙ ap (λ (n : ℕ). signed below (nearest n (10 ^ length text))) whole_size
    ∙ ap (signed below) (nearest_exact size (10 ^ length text) (one-le-pow (length text) 10 (omega arith)))

-- where the point stands
no_point : (unit : ℕ) → is_digit unit ≡ true → (unit == 46) ≡ false
no_point unit d = grind arith

point_at : (whole text : List ℕ) → all_digits whole ≡ true → position_or_len (λ unit. unit == 46) (whole ++ (46 ∷ text)) ≡ length whole
point_at [] text d = refl
point_at (unit ∷ whole) text d =
    let p = digits_head unit whole d in
    let other : (unit == 46) ≡ false = no_point unit p.0 in
    rw other (omega (arith, point_at whole text p.1))

cut_at_point : (whole text : List ℕ) → all_digits whole ≡ true → position (λ unit. unit == 46) (whole ++ (46 ∷ text)) ≡ Some (length whole)
cut_at_point whole text d =
    let e = point_at whole text d in
    let within : nat_lt (length whole) (length (whole ++ (46 ∷ text))) ≡ true = lt-ltb (length whole) (length (whole ++ (46 ∷ text))) (omega (arith, length-append whole (46 ∷ text))) in
    rw (e, within) refl

-- digits and a point read to what they are worth
pub unsigned_read : (below : Bool) (size : ℕ) (whole text : List ℕ) → Says (size / 10 ^ 8) whole → Goes 8 (number whole) (size % 10 ^ 8) text → 0 < length text
    → fits_double (signed below size) ≡ true
    → unsigned_value below (whole ++ (46 ∷ text)) (position (λ unit. unit == 46) (whole ++ (46 ∷ text))) ≡ Some (signed below size)
unsigned_read below size whole text s g some fits =
    let front = take-append_seam whole (46 ∷ text) in
    let back : drop (length whole + 1) (whole ++ (46 ∷ text)) ≡ text = drop-append-add whole (46 ∷ text) 1 in
    let first : are_digits whole ≡ true = some_are whole s.some ∙ s.digits in
    let second : are_digits text ≡ true = some_are text some ∙ g.digits in
    rw (cut_at_point whole text s.digits, front, back, first, second, exact_units below size whole text s.worth g, fits) refl

signed_back : (units : ℤ) → signed (is_below_zero units) (unsigned_abs units) ≡ units
signed_back (pos n) = refl
signed_back (negsuc n) = refl

is_double : (units : ℤ) → FitsSigned w64 units → fits_double units ≡ true
unfolding fits_double
is_double units h = grind (arith, ints)

size_below : (units : ℤ) → FitsSigned w64 units → unsigned_abs units < 2 ^ 64
size_below units h = grind (arith, ints)

no_minus : (n : ℕ) (whole text : List ℕ) → Says n whole → has_minus (whole ++ text) ≡ false
no_minus n [] text s = absurd (let e = s.some in omega (arith, e))
no_minus n (unit ∷ whole) text s = let p = digits_head unit whole s.digits in grind arith

pub read_back : (units : ℤ) → FitsSigned w64 units → double_of_text (text_of units) ≡ Some units
unfolding double_of_text text_of decimals
read_back (pos n) h =
    let size = size_below (pos n) h in
    let says = decimal_says (n / 10 ^ 8) (omega (arith, size)) in
    let goes = decimals_go 8 (number (decimal (n / 10 ^ 8))) (n % 10 ^ 8) (mod_below n (10 ^ 8) (omega arith)) in
    let plain = no_minus (n / 10 ^ 8) (decimal (n / 10 ^ 8)) (46 ∷ decimals 8 (n % 10 ^ 8)) says in
    rw plain (unsigned_read false n (decimal (n / 10 ^ 8)) (decimals 8 (n % 10 ^ 8)) says goes (omega arith) (is_double (pos n) h))
read_back (negsuc n) h =
    let size = size_below (negsuc n) h in
    let says = decimal_says (suc n / 10 ^ 8) (omega (arith, size)) in
    let goes = decimals_go 8 (number (decimal (suc n / 10 ^ 8))) (suc n % 10 ^ 8) (mod_below (suc n) (10 ^ 8) (omega arith)) in
    unsigned_read true (suc n) (decimal (suc n / 10 ^ 8)) (decimals 8 (suc n % 10 ^ 8)) says goes (omega arith) (is_double (negsuc n) h)
