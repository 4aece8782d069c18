-- Functions of numbers (MQL5 Reference, Math Functions; NormalizeDouble). A double is its count of units of
-- 10^-8.
use Rattle.std.specs.Prelude.{ℕ, zero, suc, ◌+◌, ◌*◌, ◌/◌, ◌%◌, ◌^◌, ◌==◌, ◌&&◌, nat_le, int_lt, int_rem, Bool, true, false, ℤ, pos, negsuc, neg_ℤ, ◌*ℤ◌, unsigned_abs, Result, Ok, Err}
use Rattle.std.specs.Int.{int_div_euclid}
use Rattle.fx8.specs.declared.fix_fault.FixFault.{FixFault}
use Rattle.fx8.specs.declared.fix_fault.FixFault.TheVariants as fault
use Rattle.fx8.specs.Integers.{is_zero}
use Rattle.fx8.specs.Doubles.{double, product_of, quotient_of}
use Rattle.mql_mean.specs.declared.error.ErrorKind.TheVariants.{MathDomain}
use Rattle.mql_meaning.specs.Changes.{Change, ◌>>=◌, give, fail, either}
use Rattle.mql_meaning.specs.Operators.{no_fault}

-- the units of 1 (own)
abbrev pub one : ℕ
one = 10 ^ 8

-- the size of a number
abbrev pub size_of : ℤ → ℤ
size_of x = pos (unsigned_abs x)

-- the greater of two, and the lesser
abbrev pub greater : ℤ → ℤ → ℤ
greater x y = either (int_lt x y) y x

abbrev pub lesser : ℤ → ℤ → ℤ
lesser x y = either (int_lt y x) y x

-- the greatest whole double that is not above x, and the least that is not below it
abbrev pub floor_of : ℤ → Result ℤ FixFault
floor_of x = double (int_div_euclid x (pos one) *ℤ pos one)

abbrev pub ceil_of : ℤ → Result ℤ FixFault
ceil_of x = double (neg_ℤ (int_div_euclid (neg_ℤ x) (pos one) *ℤ pos one))

-- the greatest r whose square is at most n, by its binary digits: so many are left to find behind those that
-- are found
abbrev pub root_from : ℕ → ℕ → ℕ → ℕ
root_from zero n r = r
root_from (suc bit) n r =
    root_from bit n (either (nat_le ((r + 2 ^ bit) * (r + 2 ^ bit)) n) (r + 2 ^ bit) r)

-- the square root, rounded down to units; below 0 it is MathDomain. Of 64 bits of units it has fewer than 46
abbrev pub square_root : ℤ → Change ℤ
square_root (pos n) = give (pos (root_from 46 (n * one) 0))
square_root (negsuc n) = fail MathDomain

-- what is left of x by y, with the sign of x
abbrev pub rest_of : ℤ → ℤ → Result ℤ FixFault
rest_of x y = either (is_zero y) (Err fault.ZeroDivide) (Ok (int_rem x y))

-- a product that is multiplied by x so many times, rounded each time
abbrev pub multiplied : ℕ → ℤ → ℤ → Result ℤ FixFault
multiplied zero x z = Ok z
multiplied (suc n) x z = elim (product_of z x) [ Ok y ↦ multiplied n x y | Err e ↦ Err e ]

-- 1 divided by it where the exponent is below 0
abbrev pub inverse_if : Bool → ℤ → Result ℤ FixFault
inverse_if true z = quotient_of (pos one) z
inverse_if false z = Ok z

-- x to the power of a whole double from -256 to 256
abbrev pub power : ℤ → ℤ → Change ℤ
power x y =
    either (unsigned_abs y % one == 0 && nat_le (unsigned_abs y / one) 256)
    (no_fault (multiplied (unsigned_abs y / one) x (pos one)) >>= λ z.
    no_fault (inverse_if (int_lt y (pos 0)) z))
    (fail MathDomain)
