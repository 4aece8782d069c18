-- A value taken into a sort is what the conversion of a running program gives.
use Rattle.std.proofs.Common.{◌≡◌, ℕ, zero, suc, Bool, true, false, List, [], length, refl, sym}
use Rattle.std.specs.Prelude.{ℤ, Option, Some, None, Result, Ok, Err, nat_le, MatchOption, if◌then◌else◌}
use Rattle.fx8.specs.declared.int_kind.IntKind.{IntKind}
use Rattle.fx8.specs.declared.int_kind.IntKind.TheVariants as kind
use Rattle.fx8.specs.declared.fix_fault.FixFault.{FixFault}
use Rattle.fx8.specs.declared.fix_fault.FixFault.TheVariants as fault
use Rattle.fx8.specs.Doubles.{double_of_whole}
use Rattle.fx8.specs.Decimals.{text_of}
use Rattle.mql_mean.specs.declared.value.Value.{Value, out-Value}
use Rattle.mql_mean.specs.declared.value.Value.TheVariants as value
use Rattle.mql_mean.specs.declared.value.Value.TheOpen.{Value-F}
use Rattle.mql_mean.specs.declared.error.ErrorKind.TheVariants.{CellsExhausted}
use Rattle.mql_meaning.specs.declared.types.Sort.{Sort}
use Rattle.mql_meaning.specs.declared.types.Sort.TheVariants as sort
use Rattle.mql_meaning.specs.declared.store.Store.{Store}
use Rattle.mql_meaning.specs.Changes.{◌>>=◌, ◌>>◌, give, must}
use Rattle.mql_meaning.specs.Operands.{text, most_units}
use Rattle.mql_meaning.specs.Texts.{number_text}
use Rattle.mql_meaning.specs.Operators.{convert, convert_at, from_number, from_double, from_string, from_pointer, no_fault}
use Rattle.native_conversions.specs.Conversions.{Gives, converted, converted_at, number_as, double_as, string_as, pointer_as, a_double, a_string}

of_double : (found : Result ℤ FixFault) → Gives (no_fault found >>= λ z. give (value.Dbl z)) (a_double found)
of_double (Ok x) s = refl
of_double (Err fault.ZeroDivide) s = (_, refl)
of_double (Err fault.Overflow) s = (_, refl)

of_bounded : (short : Bool) (t : List ℕ) → Gives (must short CellsExhausted >> give (value.Str t)) (if short then Some (value.Str t) else None)
of_bounded true t s = refl
of_bounded false t s = (_, refl)

of_text : (t : List ℕ) → Gives (text t) (a_string t)
of_text t = of_bounded (nat_le (length t) most_units) t

of_number : (t : Sort) (j : IntKind) (x : ℤ) → Gives (from_number t j x) (number_as t j x)
of_number (sort.Number k) j x s = refl
of_number sort.Double j x s = of_double (double_of_whole x) s
of_number sort.String j x s = of_text (number_text j x) s
of_number sort.Pointer j x s = (_, refl)

of_units : (t : Sort) (x : ℤ) → Gives (from_double t x) (double_as t x)
of_units (sort.Number k) x s = refl
of_units sort.Double x s = refl
of_units sort.String x s = of_text (text_of x) s
of_units sort.Pointer x s = (_, refl)

of_string : (t : Sort) (x : List ℕ) → Gives (from_string t x) (string_as t x)
of_string (sort.Number k) x s = refl
of_string sort.Double x s = refl
of_string sort.String x s = of_text x s
of_string sort.Pointer x s = (_, refl)

of_pointer : (t : Sort) (p : ℕ) → Gives (from_pointer t p) (pointer_as t p)
of_pointer (sort.Number kind.Bool) p s = refl
of_pointer (sort.Number kind.Char) p s = (_, refl)
of_pointer (sort.Number kind.Uchar) p s = (_, refl)
of_pointer (sort.Number kind.Short) p s = (_, refl)
of_pointer (sort.Number kind.Ushort) p s = (_, refl)
of_pointer (sort.Number kind.Int) p s = (_, refl)
of_pointer (sort.Number kind.Uint) p s = (_, refl)
of_pointer (sort.Number kind.Long) p s = (_, refl)
of_pointer (sort.Number kind.Ulong) p s = (_, refl)
of_pointer (sort.Number kind.Datetime) p s = (_, refl)
of_pointer (sort.Number kind.Color) p s = (_, refl)
of_pointer sort.Double p s = (_, refl)
of_pointer sort.String zero s = refl
of_pointer sort.String (suc p) s = (_, refl)
of_pointer sort.Pointer p s = refl

at_value : (t : Sort) (w : Value-F Value) → Gives (convert_at t w) (converted_at t w)
at_value t (Value-F.Num j x) s = of_number t j x s
at_value t (Value-F.Dbl x) s = of_units t x s
at_value t (Value-F.Str x) s = of_string t x s
at_value t (Value-F.Ptr p) s = of_pointer t p s
at_value t (Value-F.Arr vs) s = (_, refl)
at_value t (Value-F.Rec vs) s = (_, refl)

pub conversion_gives : (t : Sort) (v : Value) → Gives (convert t v) (converted t v)
unfolding converted
conversion_gives t v = at_value t (out-Value v)
