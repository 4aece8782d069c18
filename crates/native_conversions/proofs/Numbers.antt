-- Digits read from the left, as much of their number as 64 bits hold.
use Rattle.std.proofs.Common.{◌≡◌, ℕ, ◌+◌, ◌-◌, ◌*◌, ◌/◌, ◌%◌, ◌^◌, ◌<◌, ◌≤◌, true, false, List, [], ◌∷◌, length, drop, get_or, refl, sym, ap, ◌∙◌, arith, div-add-mod', lit<, mod-lt, mod-eq_of_lt}
use Rattle.std.specs.Prelude.{ℤ, pos, neg_ℤ, ◌+ℤ◌, ◌-ℤ◌, ◌*ℤ◌}
use Rattle.std.specs.Int.{int_rem_euclid}
use Rattle.std.proofs.Math.Nat.{mod-add-div', add-mul-mod_self_right}
use Rattle.std.proofs.lemmas.Int.{ints}
use Rattle.fx8.specs.declared.int_kind.IntKind.TheVariants as kind
use Rattle.fx8.specs.Integers.{wrapped, DifferBy}
use Rattle.fx8.specs.Decimals.{is_digit, number_after, number}
use Rattle.fx8.proofs.Wrapping.{rest_same}
use Rattle.fx8.proofs.Digits.{number_after_is}
use Rattle.mql_meaning.specs.Texts.{digits_first}
use Rattle.native_conversions.specs.LowBits.{low_bits}

spread : (k q m p r : ℕ) → (k + q * m) * p + r ≡ (k * p + r) + q * p * m
spread k q m p r = grind arith

-- what a number is past m leaves no trace in the rest by m
rest_of : (n m p r : ℕ) → (n % m * p + r) % m ≡ (n * p + r) % m
rest_of n m p r =
    sym (ap (λ (x : ℕ). (x * p + r) % m) (sym (mod-add-div' n m)) ∙ ap (λ (x : ℕ). x % m) (spread (n % m) (n / m) m p r)
    ∙ add-mul-mod_self_right (n % m * p + r) (n / m * p) m)

number_mod : (n m : ℕ) (text : List ℕ) → number_after (n % m) text % m ≡ number_after n text % m
number_mod n m text =
    ap (λ (k : ℕ). k % m) (number_after_is (n % m) text) ∙ rest_of n m (10 ^ length text) (number text)
    ∙ ap (λ (k : ℕ). k % m) (sym (number_after_is n text))

pub digits_next : (value : ℕ) (text : List ℕ) → 1 ≤ length text → is_digit (get_or text 0 0) ≡ true
    → low_bits (number_after value (digits_first text)) ≡ low_bits (number_after (low_bits (value * 10 + (get_or text 0 0 - 48))) (digits_first (drop 1 text)))
unfolding low_bits
digits_next value [] h d = absurd (omega arith)
digits_next value (unit ∷ text) h d =
    let all : number_after value (digits_first (unit ∷ text)) ≡ number_after (value * 10 + (unit - 48)) (digits_first text) = rw d refl in
    sym (number_mod (value * 10 + (unit - 48)) (2 ^ 64) (digits_first text) ∙ ap (λ (n : ℕ). n % 2 ^ 64) (sym all))

pub digits_more : (value next : ℕ) (text others : List ℕ) → others ≡ drop 1 text → 1 ≤ length text → is_digit (get_or text 0 0) ≡ true
    → next ≡ low_bits (value * 10 + (get_or text 0 0 - 48))
    → low_bits (number_after next (digits_first others)) ≡ low_bits (number_after value (digits_first text))
digits_more value next text others o h d e =
    ap (λ (t : List ℕ). low_bits (number_after next (digits_first t))) o
    ∙ ap (λ (n : ℕ). low_bits (number_after n (digits_first (drop 1 text)))) e ∙ sym (digits_next value text h d)

pub low_low : (n : ℕ) → low_bits (low_bits n) ≡ low_bits n
unfolding low_bits
low_low n = mod-eq_of_lt (mod-lt n (lit< tt))

pub no_digits : low_bits 0 ≡ 0
unfolding low_bits
no_digits = refl

pub digits_stop : (value : ℕ) (text : List ℕ) → 1 ≤ length text → is_digit (get_or text 0 0) ≡ false → number_after value (digits_first text) ≡ value
digits_stop value [] h d = absurd (omega arith)
digits_stop value (unit ∷ text) h d = rw d refl

pub digits_end : (value : ℕ) (text : List ℕ) → length text < 1 → number_after value (digits_first text) ≡ value
digits_end value [] h = refl
digits_end value (unit ∷ text) h = absurd (omega arith)

same : (x y : ℤ) → DifferBy (2 ^ 64) x y → wrapped kind.Long x ≡ wrapped kind.Long y
unfolding wrapped
same x y d =
    let moved : x +ℤ pos (2 ^ 63) ≡ (y +ℤ pos (2 ^ 63)) +ℤ d.0 *ℤ pos (2 ^ 64) = omega (arith, ints, d.1) in
    ap (λ (z : ℤ). z -ℤ pos (2 ^ 63)) (rest_same (x +ℤ pos (2 ^ 63)) (y +ℤ pos (2 ^ 63)) (2 ^ 64) (lit< tt) (d.0, moved))

pub wrapped_number : (n number : ℕ) → number ≡ low_bits n → wrapped kind.Long (pos number) ≡ wrapped kind.Long (pos n)
unfolding low_bits
wrapped_number n number e =
    sym (same (pos n) (pos number) (pos (n / 2 ^ 64), omega (arith, ints, e, div-add-mod' n (2 ^ 64))))

pub wrapped_negative : (n number : ℕ) → number ≡ low_bits n → wrapped kind.Long (neg_ℤ (pos number)) ≡ wrapped kind.Long (neg_ℤ (pos n))
unfolding low_bits
wrapped_negative n number e =
    sym (same (neg_ℤ (pos n)) (neg_ℤ (pos number)) (neg_ℤ (pos (n / 2 ^ 64)), omega (arith, ints, e, div-add-mod' n (2 ^ 64))))

pub wrapped_zero : wrapped kind.Long (pos 0) ≡ pos 0
unfolding wrapped
wrapped_zero = refl
