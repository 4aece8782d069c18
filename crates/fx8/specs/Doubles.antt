-- Doubles of the fixed-point profile: counts of units of 10^-8 that 64 bits with a sign hold (own; in place
-- of MQL5 Reference, Real Types).
use Rattle.std.specs.Prelude.{⊤, ℕ, ◌+◌, ◌-◌, ◌*◌, ◌^◌, ◌<◌, ◌≤◌, ◌≡◌, Bool, ◌&&◌, if◌then◌else◌, ℤ, pos, negsuc, neg_ℤ, ◌+ℤ◌, ◌-ℤ◌, ◌*ℤ◌, int_le, int_lt, int_div, Option, Some, None, Result, Ok, Err}
use Rattle.fx8.specs.Integers.{is_zero}
use Rattle.fx8.specs.Rounding.{rounded}
use Rattle.fx8.specs.declared.fix_fault.FixFault.{FixFault}
use Rattle.fx8.specs.declared.fix_fault.FixFault.TheVariants as fault

-- 64 bits with a sign hold so many units
unfoldable pub fits_double : ℤ → Bool
fits_double units = int_le (neg_ℤ (pos (2 ^ 63))) units && int_lt units (pos (2 ^ 63))

-- the double of so many units, where there is one
abbrev pub double : ℤ → Result ℤ FixFault
double units = if fits_double units then Ok units else Err fault.Overflow

-- sum and difference are exact; product and quotient are rounded to units, half away from zero
abbrev pub sum_of : ℤ → ℤ → Result ℤ FixFault
sum_of x y = double (x +ℤ y)

abbrev pub difference_of : ℤ → ℤ → Result ℤ FixFault
difference_of x y = double (x -ℤ y)

abbrev pub product_of : ℤ → ℤ → Result ℤ FixFault
product_of x y = double (rounded (x *ℤ y) (pos (10 ^ 8)))

abbrev pub quotient_of : ℤ → ℤ → Result ℤ FixFault
quotient_of x y = if is_zero y then Err fault.ZeroDivide else double (rounded (x *ℤ pos (10 ^ 8)) y)

-- the double of a whole number, and the whole number of a double, toward zero
abbrev pub double_of_whole : ℤ → Result ℤ FixFault
double_of_whole n = double (n *ℤ pos (10 ^ 8))

abbrev pub whole_of : ℤ → ℤ
whole_of x = int_div x (pos (10 ^ 8))

-- how many units the last of so many decimals is worth; more than 8 decimals count as 8
abbrev pub unit_of_place : ℕ → ℕ
unit_of_place decimals = 10 ^ (8 - decimals)

-- rounded to so many decimals, half away from zero
abbrev pub normalized : ℕ → ℤ → Result ℤ FixFault
normalized decimals x = double (rounded x (pos (unit_of_place decimals)) *ℤ pos (unit_of_place decimals))

-- r is the greatest whole number whose square is at most n
pub record IsRoot (n r : ℕ) : Type 0 where
  pub low : r * r ≤ n
  pub high : n < (r + 1) * (r + 1)

-- the square root of a double, rounded down to units; none of a number below zero
abbrev pub IsRootOf : ℤ → Option ℤ → Type 0
IsRootOf (pos n) (Some r) = (k : ℕ) × (r ≡ pos k) × IsRoot (n * 10 ^ 8) k
IsRootOf (negsuc n) None = ⊤
IsRootOf x answer = ⊥
