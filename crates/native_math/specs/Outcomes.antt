-- What a native function comes to that has a value or ends the run with an error.
use Rattle.std.specs.Prelude.{ℕ, ℤ, pos, Bool, Result, Ok, Err}
use Rattle.fx8.specs.declared.fix_fault.FixFault.{FixFault}
use Rattle.mql_mean.specs.declared.error.ErrorKind.{ErrorKind}
use Rattle.mql_meaning.specs.Changes.{Change, give, fail}
use Rattle.mql_meaning.specs.MathFunctions.{one, multiplied, inverse_if}

-- a value is given, an error ends the run at the line in force
abbrev pub outcome : {A : Type 0} → Result A ErrorKind → Change A
outcome (Ok a) = give a
outcome (Err kind) = fail kind

-- the product of so many factors x, or 1 divided by it (a part of `power`)
abbrev pub inverse_of : Bool → Result ℤ FixFault → Result ℤ FixFault
inverse_of inverse (Ok z) = inverse_if inverse z
inverse_of inverse (Err e) = Err e

abbrev pub power_or_inverse : ℕ → ℤ → Bool → Result ℤ FixFault
power_or_inverse times x inverse = inverse_of inverse (multiplied times x (pos one))
