-- How large sizes, quotients and rests are.
use Rattle.std.proofs.Common.{◌≡◌, ℕ, suc, ◌^◌, ◌-◌, ◌/◌, ◌%◌, ◌<◌, ◌≤◌, ℤ, pos, negsuc, FitsSigned, refl, ap, arith}
use Rattle.std.specs.Prelude.{unsigned_abs, int_rem}
use Rattle.std.specs.Int.{int_div_euclid, w128}
use Rattle.std.proofs.lemmas.Int.{ints}
use Rattle.fx8.specs.declared.int_kind.IntKind.{IntKind}
use Rattle.fx8.specs.declared.int_kind.IntKind.TheVariants as kind
use Rattle.fx8.specs.Integers.{wrapped}
use Rattle.mql_meaning.specs.MathFunctions.{one}

-- the least number of 128 bits and its size are one number in each kind
least : (k : IntKind) → wrapped k (negsuc (2 ^ 127 - 1)) ≡ wrapped k (pos (2 ^ 127))
unfolding wrapped
least kind.Bool = refl
least kind.Char = refl
least kind.Uchar = refl
least kind.Short = refl
least kind.Ushort = refl
least kind.Int = refl
least kind.Uint = refl
least kind.Long = refl
least kind.Ulong = refl
least kind.Datetime = refl
least kind.Color = refl

pub least_alike : (k : IntKind) (x : ℤ) → x ≡ negsuc (2 ^ 127 - 1) → wrapped k x ≡ wrapped k (pos (unsigned_abs x))
least_alike k x e = rw e (least k)

-- a quotient by the units of 1 is no larger than what is divided
pub quotient_small : (x : ℤ) → unsigned_abs (int_div_euclid x (pos one)) ≤ unsigned_abs x
quotient_small (pos n) = omega arith
quotient_small (negsuc n) = omega arith

-- nothing is left by -1
pub no_rest : (x : ℤ) → int_rem x (negsuc 0) ≡ pos 0
no_rest (pos n) = ap pos (omega arith)
no_rest (negsuc n) = grind arith

-- any other number has a size there
pub has_size : (x : ℤ) → FitsSigned w128 x → (x ≡ negsuc (2 ^ 127 - 1) → ⊥) → unsigned_abs x < 2 ^ 127
has_size x fits other = grind (arith, ints, fits, other)
