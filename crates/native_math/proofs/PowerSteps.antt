-- A power in two steps.
use Rattle.std.proofs.Common.{◌≡◌, ℕ, ℤ, pos, ◌/◌, ◌%◌, ◌==◌, ◌&&◌, nat_le, int_lt, unsigned_abs, Bool, true, false, Result, Ok, Err, refl}
use Rattle.fx8.specs.declared.fix_fault.FixFault.{FixFault}
use Rattle.fx8.specs.declared.fix_fault.FixFault.TheVariants as fault
use Rattle.mql_mean.specs.declared.error.ErrorKind.TheVariants.{MathDomain}
use Rattle.mql_meaning.specs.declared.store.Store.{Store}
use Rattle.mql_meaning.specs.Changes.{after, fail}
use Rattle.mql_meaning.specs.Operators.{no_fault}
use Rattle.mql_meaning.specs.MathFunctions.{one, multiplied, inverse_if, power}
use Rattle.native_math.specs.Outcomes.{inverse_of, power_or_inverse}

-- powers with the exponent are defined
abbrev pub is_exponent : ℤ → Bool
is_exponent y = unsigned_abs y % one == 0 && nat_le (unsigned_abs y / one) 256

joined : (r : Result ℤ FixFault) (inverse : Bool) (store : Store)
    → after (no_fault r store) (λ z. no_fault (inverse_if inverse z)) ≡ no_fault (inverse_of inverse r) store
joined (Ok z) inverse store = refl
joined (Err fault.Overflow) inverse store = refl
joined (Err fault.ZeroDivide) inverse store = refl

pub power_is : (x y : ℤ) (store : Store) → is_exponent y ≡ true
    → power x y store ≡ no_fault (power_or_inverse (unsigned_abs y / one) x (int_lt y (pos 0))) store
power_is x y store e = rw e (joined (multiplied (unsigned_abs y / one) x (pos one)) (int_lt y (pos 0)) store)

pub power_is_not : (x y : ℤ) (store : Store) → is_exponent y ≡ false → power x y store ≡ fail MathDomain store
power_is_not x y store e = rw e refl
