-- Values worked out by hand, which the check computes. Doubles are in units of 10^-8.
use Rattle.std.proofs.Common.{◌≡◌, ◌*◌, ◌^◌, pos, negsuc, true, Ok, Err, refl}
use Rattle.fx8.specs.declared.fix_fault.FixFault.TheVariants as fault
use Rattle.fx8.specs.Doubles.{fits_double, normalized}
use Rattle.fx8.specs.Rounding.{rounded}
use Rattle.mql_meaning.specs.MathFunctions.{root_from, floor_of, ceil_of, rest_of, multiplied, inverse_if}

-- the square root of 2 is 1.41421356..
root_of_2 : root_from 46 (2 * 10 ^ 16) 0 ≡ 141421356
root_of_2 = refl

-- the floor of -0.5 is -1, its ceiling 0; the ceiling of 0.00000001 is 1
floor_below_0 : floor_of (negsuc 49999999) ≡ Ok (negsuc 99999999)
unfolding fits_double
floor_below_0 = refl

ceil_below_0 : ceil_of (negsuc 49999999) ≡ Ok (pos 0)
unfolding fits_double
ceil_below_0 = refl

ceil_of_a_unit : ceil_of (pos 1) ≡ Ok (pos 100000000)
unfolding fits_double
ceil_of_a_unit = refl

-- the greatest double has no ceiling
no_ceil : ceil_of (pos 9223372036854775807) ≡ Err fault.Overflow
unfolding fits_double
no_ceil = refl

-- -2.5 rounds to -3, and 1.005 to 1.01 at two decimals
round_half : normalized 0 (negsuc 249999999) ≡ Ok (negsuc 299999999)
unfolding fits_double rounded
round_half = refl

two_decimals : normalized 2 (pos 100500000) ≡ Ok (pos 101000000)
unfolding fits_double rounded
two_decimals = refl

-- what is left of -7 by 3 is -1, and nothing is left by 0
rest_below_0 : rest_of (negsuc 699999999) (pos 300000000) ≡ Ok (negsuc 99999999)
rest_below_0 = refl

rest_by_0 : rest_of (pos 700000000) (pos 0) ≡ Err fault.ZeroDivide
rest_by_0 = refl

-- 2 to the power of 10 is 1024, to the power of -2 it is 0.25
power_of_2 : multiplied 10 (pos 200000000) (pos 100000000) ≡ Ok (pos 102400000000)
unfolding fits_double rounded
power_of_2 = refl

inverse_of_4 : inverse_if true (pos 400000000) ≡ Ok (pos 25000000)
unfolding fits_double rounded
inverse_of_4 = refl
