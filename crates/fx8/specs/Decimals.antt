-- Doubles as decimal texts (own): what a text is worth, and what is written for a double.
use Rattle.std.specs.Prelude.{ℕ, suc, zero, ◌+◌, ◌-◌, ◌*◌, ◌/◌, ◌%◌, ◌^◌, Bool, true, false, ◌&&◌, ◌==◌, nat_le, if◌then◌else◌, List, [], ◌∷◌, ◌++◌, length, take, drop, position, decimal, ℤ, pos, unsigned_abs, Option, Some, None}
use Rattle.fx8.specs.Rounding.{signed, is_below_zero, rounded}
use Rattle.fx8.specs.Doubles.{fits_double}

-- a decimal digit
abbrev pub is_digit : ℕ → Bool
is_digit unit = nat_le 48 unit && nat_le unit 57

-- each is a digit
abbrev pub all_digits : List ℕ → Bool
all_digits [] = true
all_digits (unit ∷ text) = is_digit unit && all_digits text

-- digits, at least one
abbrev pub are_digits : List ℕ → Bool
are_digits [] = false
are_digits (unit ∷ text) = all_digits (unit ∷ text)

-- the number that digits go on with after a number
abbrev pub number_after : ℕ → List ℕ → ℕ
number_after n [] = n
number_after n (unit ∷ text) = number_after (n * 10 + (unit - 48)) text

-- the number that digits write
abbrev pub number : List ℕ → ℕ
number text = number_after 0 text

-- how many units of 10^-8 the digits before and behind a point are, rounded past the eighth decimal, half
-- away from zero
unfoldable pub units_of : Bool → List ℕ → List ℕ → ℤ
units_of below_zero whole decimals =
    rounded (signed below_zero (number (whole ++ decimals) * 10 ^ 8)) (pos (10 ^ length decimals))

-- these units where the test holds and 64 bits hold them
abbrev pub double_if : Bool → ℤ → Option ℤ
double_if test units = if test && fits_double units then Some units else None

-- digits alone, or digits, the point at this place, and digits
abbrev pub unsigned_value : Bool → List ℕ → Option ℕ → Option ℤ
unsigned_value below_zero text None = double_if (are_digits text) (units_of below_zero text [])
unsigned_value below_zero text (Some place) =
    double_if (are_digits (take place text) && are_digits (drop (place + 1) text))
    (units_of below_zero (take place text) (drop (place + 1) text))

-- a text begins with `-`
abbrev pub has_minus : List ℕ → Bool
has_minus [] = false
has_minus (unit ∷ text) = unit == 45

-- what follows the sign
abbrev pub behind_sign : List ℕ → List ℕ
behind_sign text = if has_minus text then drop 1 text else text

-- the double of a decimal text: an optional `-`, digits, and optionally a point and digits
unfoldable pub double_of_text : List ℕ → Option ℤ
double_of_text text =
    unsigned_value (has_minus text) (behind_sign text) (position (λ unit. unit == 46) (behind_sign text))

-- the decimals of n / 10 ^ k, where n is below 10 ^ k: the first, and those of the rest where that is not 0
unfoldable pub decimals : ℕ → ℕ → List ℕ
decimals zero n = []
decimals (suc k) n = (48 + n / 10 ^ k) ∷ (if n % 10 ^ k == 0 then [] else decimals k (n % 10 ^ k))

-- `-` below zero
abbrev pub sign_text : ℤ → List ℕ
sign_text units = if is_below_zero units then 45 ∷ [] else []

-- the shortest decimal text of a double with at least one decimal: `-` below zero, the whole number, a point,
-- the decimals
unfoldable pub text_of : ℤ → List ℕ
text_of units =
    sign_text units ++ decimal (unsigned_abs units / 10 ^ 8)
    ++ (46 ∷ decimals 8 (unsigned_abs units % 10 ^ 8))
