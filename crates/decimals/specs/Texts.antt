-- Decimal numbers in units of their last place: digits, and optionally a point and digits. Own.
use Rattle.std.specs.Prelude.{ℕ, ◌+◌, ◌-◌, ◌*◌, ◌^◌, Bool, drop, ◌&&◌, ◌==◌, nat_le, nat_lt, if◌then◌else◌, List, [], ◌∷◌, length, Option, Some, None, option_map, ℤ, pos, neg_ℤ}
use Rattle.std.specs.Option.{option_and_then}
use Rattle.std.specs.List.{slice_split}
use Rattle.fx8.specs.Decimals.{all_digits, number_after, has_minus}

-- f of the value, where there is one
abbrev pub given : {A B : Type 0} → Option A → (A → Option B) → Option B
given o f = option_and_then f o

-- the value, where the test holds
abbrev pub provided : {A : Type 0} → Bool → A → Option A
provided test x = if test then Some x else None

-- the parts of a text round each separator
abbrev pub parts : ℕ → List ℕ → List (List ℕ)
parts separator text = slice_split (λ b. b == separator) text

-- a whole number up to a limit: one digit or more
unfoldable pub whole : ℕ → List ℕ → Option ℕ
whole limit text = provided (nat_lt 0 (length text) && all_digits text
    && nat_le (number_after 0 text) limit) (number_after 0 text)

-- a number without decimals, in units of 10^-places
abbrev pub plain : ℕ → ℕ → List ℕ → Option ℕ
plain places limit whole_part = option_map (λ n. n * 10 ^ places) (whole limit whole_part)

-- a number with 1 to so many decimals
abbrev pub pointed : ℕ → ℕ → List ℕ → List ℕ → Option ℕ
pointed places limit whole_part decimals =
    given (whole limit whole_part) (λ n. given (whole 99999999 decimals)
    (λ k. provided (nat_le (length decimals) places)
    (n * 10 ^ places + k * 10 ^ (places - length decimals))))

-- the parts of a number round its point, if it has one
abbrev pub of_parts : ℕ → ℕ → List (List ℕ) → Option ℕ
of_parts places limit [] = None
of_parts places limit (whole_part ∷ []) = plain places limit whole_part
of_parts places limit (whole_part ∷ decimals ∷ []) = pointed places limit whole_part decimals
of_parts places limit (whole_part ∷ decimals ∷ more ∷ most) = None

-- digits, and optionally a point and digits
abbrev pub unsigned : ℕ → ℕ → List ℕ → Option ℕ
unsigned places limit text = of_parts places limit (parts 46 text)

-- the same after an optional `-`
abbrev pub signed : ℕ → ℕ → List ℕ → Option ℤ
signed places limit text = if has_minus text
    then option_map (λ n. neg_ℤ (pos n)) (unsigned places limit (drop 1 text))
    else option_map pos (unsigned places limit text)
