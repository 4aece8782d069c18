-- A value taken into a sort, where it has a value there (MQL5 Reference, Language Basics, Data Types,
-- Typecasting): what the conversion of a running program gives, and none where that ends.
use Rattle.std.specs.Prelude.{◌≡◌, ℕ, zero, ℤ, not, ◌==◌, nat_le, List, [], length, Option, Some, None, MatchOption, Result, Ok, Err, if◌then◌else◌}
use Rattle.fx8.specs.declared.int_kind.IntKind.{IntKind}
use Rattle.fx8.specs.declared.int_kind.IntKind.TheVariants as kind
use Rattle.fx8.specs.declared.fix_fault.FixFault.{FixFault}
use Rattle.fx8.specs.Integers.{wrapped, truth}
use Rattle.fx8.specs.Doubles.{double_of_whole, whole_of}
use Rattle.fx8.specs.Decimals.{text_of}
use Rattle.mql_mean.specs.declared.value.Value.{Value, out-Value}
use Rattle.mql_mean.specs.declared.value.Value.TheVariants as value
use Rattle.mql_mean.specs.declared.value.Value.TheOpen.{Value-F}
use Rattle.mql_meaning.specs.declared.types.Sort.{Sort}
use Rattle.mql_meaning.specs.declared.types.Sort.TheVariants as sort
use Rattle.mql_meaning.specs.declared.store.Store.{Store}
use Rattle.mql_meaning.specs.Changes.{Change, Ended, Done, Over}
use Rattle.mql_meaning.specs.Operands.{most_units}
use Rattle.mql_meaning.specs.Texts.{number_text, integer_of, double_of}

-- a double, where there is one
abbrev pub a_double : Result ℤ FixFault → Option Value
a_double (Ok x) = Some (value.Dbl x)
a_double (Err fault) = None

-- a string, where it is not too long
abbrev pub a_string : List ℕ → Option Value
a_string s = if nat_le (length s) most_units then Some (value.Str s) else None

-- a number, a double, a string and a pointer, taken into a sort
abbrev pub number_as : Sort → IntKind → ℤ → Option Value
number_as (sort.Number k) j x = Some (value.Num k (wrapped k x))
number_as sort.Double j x = a_double (double_of_whole x)
number_as sort.String j x = a_string (number_text j x)
number_as sort.Pointer j x = None

abbrev pub double_as : Sort → ℤ → Option Value
double_as (sort.Number k) x = Some (value.Num k (wrapped k (whole_of x)))
double_as sort.Double x = Some (value.Dbl x)
double_as sort.String x = a_string (text_of x)
double_as sort.Pointer x = None

abbrev pub string_as : Sort → List ℕ → Option Value
string_as (sort.Number k) s = Some (value.Num k (wrapped k (integer_of s)))
string_as sort.Double s = Some (value.Dbl (double_of s))
string_as sort.String s = a_string s
string_as sort.Pointer s = None

abbrev pub pointer_as : Sort → ℕ → Option Value
pointer_as (sort.Number kind.Bool) p = Some (value.Num kind.Bool (truth (not (p == 0))))
pointer_as sort.String zero = Some (value.Str [])
pointer_as sort.Pointer p = Some (value.Ptr p)
pointer_as _ p = None

abbrev pub converted_at : Sort → Value-F Value → Option Value
converted_at t (Value-F.Num j x) = number_as t j x
converted_at t (Value-F.Dbl x) = double_as t x
converted_at t (Value-F.Str s) = string_as t s
converted_at t (Value-F.Ptr p) = pointer_as t p
converted_at t _ = None

unfoldable pub converted : Sort → Value → Option Value
converted t v = converted_at t (out-Value v)

-- a change gives this value and leaves the store; where there is none it ends there
abbrev pub Gives : Change Value → Option Value → Type 0
Gives change found =
    (s : Store) → MatchOption found ((e : Ended) × (change s ≡ Over e s)) (λ v. change s ≡ Done v s)
