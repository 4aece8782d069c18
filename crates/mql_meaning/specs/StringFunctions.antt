-- Functions of strings (MQL5 Reference, String Functions; Conversion Functions). A string is its 16-bit
-- units.
use Rattle.std.specs.Prelude.{ℕ, zero, suc, ◌+◌, ◌-◌, ◌/◌, ◌%◌, ◌^◌, ◌==◌, ◌&&◌, ◌||◌, not, nat_le, bit_and, Bool, true, false, List, [], ◌∷◌, ◌++◌, length, take, drop, take_while, reverse, replicate, decimal, ℤ, pos, negsuc, unsigned_abs, Option, Some, None}
use Rattle.fx8.specs.Rounding.{rounded}
use Rattle.fx8.specs.Doubles.{unit_of_place}
use Rattle.fx8.specs.Decimals.{sign_text}
use Rattle.mql_meaning.specs.Changes.{either}
use Rattle.mql_meaning.specs.Dates.{day_text, minute_text, second_text}

-- a number that is the place of something in a list of so many: from 0 to the length
abbrev pub place_in : ℤ → ℕ → Option ℕ
place_in (pos i) size = either (nat_le i size) (Some i) None
place_in (negsuc i) size = None

-- a number of things: -1 for all of so many, else at most these; below -1 none
abbrev pub count_in : ℤ → ℕ → Option ℕ
count_in (pos n) size = either (nat_le n size) (Some n) (Some size)
count_in (negsuc zero) size = Some size
count_in (negsuc (suc n)) size = None

-- the part from a place on
abbrev pub part_of : {A : Type 0} → List A → ℕ → ℕ → List A
part_of s start n = take n (drop start s)

-- a text begins with another one
abbrev pub begins : List ℕ → List ℕ → Bool
begins [] s = true
begins (x ∷ xs) [] = false
begins (x ∷ xs) (y ∷ ys) = x == y && begins xs ys

-- the first place, counted from this one on, at which a text has a part
abbrev pub find_from : ℕ → List ℕ → List ℕ → Option ℕ
find_from place part [] = either (begins part []) (Some place) None
find_from place part (u ∷ us) =
    elim (begins part (u ∷ us)) [ true ↦ Some place | false ↦ find_from (place + 1) part us ]

-- a text and a number of changes
pub record Counted : Type 0 where
  pub count : ℕ
  pub text : List ℕ

-- a text before another one, which is one change more or none
abbrev pub before : ℕ → List ℕ → Counted → Counted
before n s c = record { count = n + c.count; text = s ++ c.text }

-- a part that has a unit is replaced wherever it stands, from left to right; so many units are left out first
abbrev pub replaced : List ℕ → List ℕ → ℕ → List ℕ → Counted
replaced part by skip [] = record { count = 0; text = [] }
replaced part by (suc skip) (u ∷ us) = replaced part by skip us
replaced part by zero (u ∷ us) = elim (begins part (u ∷ us)) [
  | true ↦ before 1 by (replaced part by (length part - 1) us)
  | false ↦ before 0 (u ∷ []) (replaced part by 0 us)
]

-- an empty part stands nowhere
abbrev pub replace_in : List ℕ → List ℕ → List ℕ → Counted
replace_in s [] by = record { count = 0; text = s }
replace_in s (p ∷ part) by = replaced (p ∷ part) by 0 s

-- blanks, tabs and line ends
abbrev pub is_space : ℕ → Bool
is_space u = (u == 32) || (u == 9) || (u == 13) || (u == 10)

-- without those at its beginning, and without those at its end
abbrev pub trimmed_left : List ℕ → List ℕ
trimmed_left s = drop (length (take_while is_space s)) s

abbrev pub trimmed_right : List ℕ → List ℕ
trimmed_right s = reverse (trimmed_left (reverse s))

-- an ASCII letter as a small one, and as a capital
abbrev pub small : ℕ → ℕ
small u = either (nat_le 65 u && nat_le u 90) (u + 32) u

abbrev pub capital : ℕ → ℕ
capital u = either (nat_le 97 u && nat_le u 122) (u - 32) u

-- a unit at a place; at the end it is one more
abbrev pub with_unit : List ℕ → ℕ → ℕ → List ℕ
with_unit s i u = take i s ++ (u ∷ drop (i + 1) s)

-- the parts between separators
abbrev pub parts : ℕ → List ℕ → List (List ℕ)
parts separator [] = [] ∷ []
parts separator (u ∷ us) = either (u == separator) ([] ∷ parts separator us) (onto u (parts separator us))
  where
    onto : ℕ → List (List ℕ) → List (List ℕ)
    onto u [] = (u ∷ []) ∷ []
    onto u (s ∷ ss) = (u ∷ s) ∷ ss

-- an empty string has no part
abbrev pub split : ℕ → List ℕ → List (List ℕ)
split separator [] = []
split separator (u ∷ us) = parts separator (u ∷ us)

-- at least so many units: others stand before it, or behind it
abbrev pub padded : Bool → ℕ → ℕ → List ℕ → List ℕ
padded true width unit s = s ++ replicate (width - length s) unit
padded false width unit s = replicate (width - length s) unit ++ s

-- a width that a number stands for: none below 0
abbrev pub width_of : ℤ → ℕ
width_of (pos n) = n
width_of (negsuc n) = 0

-- a number of decimals: none below 0, 8 above 8
abbrev pub decimals_of : ℤ → ℕ
decimals_of (pos n) = either (nat_le n 8) n 8
decimals_of (negsuc n) = 0

-- a whole number of units of the last of so many decimals
abbrev pub point_text : ℕ → ℕ → List ℕ
point_text zero n = decimal n
point_text (suc d) n =
    decimal (n / 10 ^ suc d) ++ (46 ∷ padded false (suc d) 48 (decimal (n % 10 ^ suc d)))

-- a double with so many decimals, rounded half away from zero: its size, and with its sign
abbrev pub places_of : ℕ → ℤ → ℤ
places_of d x = rounded x (pos (unit_of_place d))

abbrev pub fixed_text : ℕ → ℤ → List ℕ
fixed_text d x = sign_text (places_of d x) ++ point_text d (unsigned_abs (places_of d x))

-- the parts of a time that flags ask for: 1 its day, 2 hours and minutes, 4 seconds too
abbrev pub has_flag : ℕ → ℕ → Bool
has_flag flags flag = not (bit_and flags flag == 0)

abbrev pub clock_text : ℕ → ℕ → List ℕ
clock_text t flags = either (has_flag flags 4) (second_text t) (either (has_flag flags 2) (minute_text t) [])

abbrev pub apart : List ℕ → List ℕ → List ℕ
apart [] t = t
apart s [] = s
apart s t = s ++ (32 ∷ t)

abbrev pub time_parts : ℕ → ℕ → List ℕ
time_parts t flags = apart (either (has_flag flags 1) (day_text t) []) (clock_text t flags)
