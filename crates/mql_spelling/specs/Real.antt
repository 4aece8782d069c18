-- The value of a double literal, from its digits.
use Rattle.std.specs.Prelude.{ℕ, ℤ, ◌+◌, ◌-◌, ◌*◌, ◌^◌, Bool, true, false, ◌==◌, nat_lt, nat_le, pos, List, [], ◌∷◌, ◌++◌, length, take, drop, slice_index, Option, Some, None, if◌then◌else◌}
use Rattle.fx8.specs.Decimals.{is_digit, has_minus}
use Rattle.mql_spelling.specs.Value.{value_from}

-- how many digits a text begins with
abbrev pub digits_len : List ℕ → ℕ
digits_len [] = 0
digits_len (u ∷ us) = if is_digit u then digits_len us + 1 else 0

-- the digits that a text begins with, and what follows them
unfoldable pub digits_front : List ℕ → List ℕ
digits_front us = take (digits_len us) us

unfoldable pub digits_rest : List ℕ → List ℕ
digits_rest us = drop (digits_len us) us

-- behind the whole digits: the digits behind a point, or none (MQL5 Reference, Real Types)
abbrev pub fraction_of : List ℕ → List ℕ
fraction_of [] = []
fraction_of (u ∷ us) = if u == 46 then digits_front us else []

-- behind the whole digits: what follows the point and its digits
abbrev pub fraction_rest : List ℕ → List ℕ
fraction_rest [] = []
fraction_rest (u ∷ us) = if u == 46 then digits_rest us else u ∷ us

-- the digits behind the mark of an exponent and its sign (MQL5 Reference, Real Types)
abbrev pub exponent_digits : List ℕ → List ℕ
exponent_digits [] = []
exponent_digits (u ∷ us) = if u == 45 then us else if u == 43 then us else u ∷ us

-- How many of a number's digits stand before its ninth decimal, where so many stand before its point and the
-- exponent is this. None: the ninth decimal and more stand before its first digit.
abbrev pub places_kept : ℕ → Bool → ℕ → Option ℕ
places_kept before true y = if nat_le y (before + 8) then Some (before + 8 - y) else None
places_kept before false y = Some (before + 8 + y)

-- the digit of that place is `5` or above
abbrev pub half : List ℕ → ℕ → ℕ
half digits k = if nat_le 53 (slice_index digits k) then 1 else 0

-- The digits before the ninth decimal are the count of units of 10^-8, and the ninth decimal rounds it: from
-- 5 on up, which is half away from zero, since no literal has a sign (own).
unfoldable pub kept : List ℕ → Option ℕ → ℕ
kept digits None = 0
kept digits (Some k) = value_from 10 0 (take k digits) * 10 ^ (k - length digits) + half digits k

-- a double of so many units of 10^-8, where it is one (own)
abbrev pub double_of : ℕ → Option ℤ
double_of v = if nat_lt v (2 ^ 63) then Some (pos v) else None

-- the digits of a double, those before its point and those behind it
unfoldable pub digits_of : List ℕ → List ℕ
digits_of piece = digits_front piece ++ fraction_of (digits_rest piece)

-- what follows the mark of its exponent
unfoldable pub exponent_part : List ℕ → List ℕ
exponent_part piece = drop 1 (fraction_rest (digits_rest piece))

-- the units of 10^-8 of a double literal, where it is a double (MQL5 Reference, Real Types)
unfoldable pub real_value : List ℕ → Option ℤ
real_value piece =
    double_of (kept (digits_of piece)
    (places_kept (digits_len piece) (has_minus (exponent_part piece))
    (value_from 10 0 (exponent_digits (exponent_part piece)))))
