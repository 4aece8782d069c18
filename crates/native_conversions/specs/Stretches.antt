-- Where a double can end at the beginning of a text. (No definition for readers.)
use Rattle.std.specs.Prelude.{ℕ, Bool, ◌||◌, ◌==◌, List, [], ◌∷◌, if◌then◌else◌}
use Rattle.fx8.specs.Decimals.{is_digit}

-- a digit, a minus sign, or a point
abbrev pub is_double_unit : ℕ → Bool
is_double_unit unit = is_digit unit || (unit == 45 || unit == 46)

-- these at the beginning of a text
abbrev pub double_stretch : List ℕ → List ℕ
double_stretch [] = []
double_stretch (unit ∷ text) = if is_double_unit unit then unit ∷ double_stretch text else []
