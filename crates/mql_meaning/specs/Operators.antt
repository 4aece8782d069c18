-- What operators do to values (MQL5 Reference, Language Basics, Operations and Expressions; Typecasting).
use Rattle.std.specs.Prelude.{ℕ, ℤ, pos, negsuc, zero, ◌==◌, ◌-ℤ◌, not, int_lt, Bool, true, false, List, [], ◌∷◌, ◌++◌, Option, Some, None, Result, Ok, Err}
use Rattle.fx8.specs.declared.int_kind.IntKind.{IntKind}
use Rattle.fx8.specs.declared.int_kind.IntKind.TheVariants as kind
use Rattle.fx8.specs.declared.int_operator.IntOperator.{IntOperator}
use Rattle.fx8.specs.declared.int_operator.IntOperator.TheVariants as op
use Rattle.fx8.specs.declared.fix_fault.FixFault.{FixFault}
use Rattle.fx8.specs.declared.fix_fault.FixFault.TheVariants as fault
use Rattle.fx8.specs.Integers.{wrapped, truth, is_zero}
use Rattle.fx8.specs.Operators.{computed}
use Rattle.fx8.specs.Doubles.{sum_of, difference_of, product_of, quotient_of, double_of_whole, whole_of}
use Rattle.mql_mean.specs.declared.value.Value.{Value, out-Value}
use Rattle.mql_mean.specs.declared.value.Value.TheVariants as value
use Rattle.mql_mean.specs.declared.value.Value.TheOpen.{Value-F}
use Rattle.mql_mean.specs.declared.error.ErrorKind.TheVariants.{ZeroDivide, FixedOverflow}
use Rattle.mql_meaning.specs.declared.types.Sort.{Sort}
use Rattle.mql_meaning.specs.declared.types.Sort.TheVariants as sort
use Rattle.mql_meaning.specs.declared.operator.Bump.{Bump}
use Rattle.mql_meaning.specs.declared.operator.Bump.TheVariants as bump
use Rattle.mql_meaning.specs.declared.operator.UnaryOperator.{UnaryOperator}
use Rattle.mql_meaning.specs.declared.operator.UnaryOperator.TheVariants as unary
use Rattle.mql_meaning.specs.declared.place.Place.{Place}
use Rattle.mql_meaning.specs.Changes.{Change, ◌>>=◌, ◌>>◌, give, stuck, the, fail, either}
use Rattle.mql_meaning.specs.Places.{read, write, number_of, serial_of}
use Rattle.mql_meaning.specs.Operands.{text}
use Rattle.mql_meaning.specs.Texts.{number_text, integer_of, double_of}
use Rattle.fx8.specs.Decimals.{text_of}

-- the units of a double, and those of a string
abbrev pub units_at : Value-F Value → Option ℤ
units_at (Value-F.Dbl x) = Some x
units_at _ = None

abbrev pub units_of : Value → Option ℤ
units_of v = units_at (out-Value v)

abbrev pub string_at : Value-F Value → Option (List ℕ)
string_at (Value-F.Str s) = Some s
string_at _ = None

abbrev pub string_of : Value → Option (List ℕ)
string_of v = string_at (out-Value v)

-- a number, or the error of a fault of arithmetic
abbrev pub no_fault : Result ℤ FixFault → Change ℤ
no_fault (Ok x) = give x
no_fault (Err fault.ZeroDivide) = fail ZeroDivide
no_fault (Err fault.Overflow) = fail FixedOverflow

-- a truth as a value
abbrev pub bool : Bool → Value
bool b = value.Num kind.Bool (truth b)

-- the operators that compare
abbrev pub compares : IntOperator → Bool
compares op.Less = true
compares op.LessOrEqual = true
compares op.Greater = true
compares op.GreaterOrEqual = true
compares op.Equal = true
compares op.NotEqual = true
compares _ = false

-- a comparison gives a bool, another operator a number of its kind
abbrev pub kind_of_result : IntOperator → IntKind → IntKind
kind_of_result o k = either (compares o) kind.Bool k

-- an operator on numbers, which are taken into its kind and wrap in it; `/` and `%` by 0 are ZeroDivide
abbrev pub on_numbers : IntOperator → IntKind → ℤ → ℤ → Change Value
on_numbers o k x y = do
  z ← no_fault (computed o k (wrapped k x) (wrapped k y))
  give (value.Num (kind_of_result o k) z)

-- whether two numbers compare so
abbrev pub compared : IntOperator → ℤ → ℤ → Option Bool
compared op.Less x y = Some (int_lt x y)
compared op.LessOrEqual x y = Some (not (int_lt y x))
compared op.Greater x y = Some (int_lt y x)
compared op.GreaterOrEqual x y = Some (not (int_lt x y))
compared op.Equal x y = Some (is_zero (x -ℤ y))
compared op.NotEqual x y = Some (not (is_zero (x -ℤ y)))
compared _ x y = None

abbrev pub compare : IntOperator → ℤ → ℤ → Change Value
compare o x y = do
  b ← the (compared o x y)
  give (bool b)

-- an operator on doubles: exact, or rounded half away from zero; past 64 bits it is FixedOverflow (own)
abbrev pub on_doubles : IntOperator → ℤ → ℤ → Change Value
on_doubles op.Add x y = no_fault (sum_of x y) >>= λ z. give (value.Dbl z)
on_doubles op.Subtract x y = no_fault (difference_of x y) >>= λ z. give (value.Dbl z)
on_doubles op.Multiply x y = no_fault (product_of x y) >>= λ z. give (value.Dbl z)
on_doubles op.Divide x y = no_fault (quotient_of x y) >>= λ z. give (value.Dbl z)
on_doubles o x y = compare o x y

-- which of two strings comes first by their units: -1, 0 where they are equal, 1
abbrev pub order : List ℕ → List ℕ → ℤ
order [] [] = pos 0
order [] (y ∷ ys) = negsuc 0
order (x ∷ xs) [] = pos 1
order (x ∷ xs) (y ∷ ys) =
    either (x == y) (order xs ys) (either (int_lt (pos x) (pos y)) (negsuc 0) (pos 1))

-- an operator on strings: they are joined, or compared by units
abbrev pub on_strings : IntOperator → List ℕ → List ℕ → Change Value
on_strings op.Add s t = text (s ++ t)
on_strings o s t = compare o (order s t) (pos 0)

-- the operands of a sort
abbrev pub both : {A : Type 0}
    → (Value → Option A) → (A → A → Change Value) → Value → Value → Change Value
both part f x y = do
  a ← the (part x)
  b ← the (part y)
  f a b

-- an operator on two operands of a sort; pointers are compared
abbrev pub binary : IntOperator → Sort → Value → Value → Change Value
binary o (sort.Number k) = both number_of (on_numbers o k)
binary o sort.Double = both units_of (on_doubles o)
binary o sort.String = both string_of (on_strings o)
binary o sort.Pointer = both serial_of (λ p q. compare o (pos p) (pos q))

-- an operator on one operand of a sort: the negative is what is left of 0, the complement of x is -1 - x
abbrev pub unary_of : UnaryOperator → Sort → Value → Change Value
unary_of unary.Minus (sort.Number k) x = the (number_of x) >>= λ a. on_numbers op.Subtract k (pos 0) a
unary_of unary.Minus sort.Double x = the (units_of x) >>= λ a. on_doubles op.Subtract (pos 0) a
unary_of unary.Complement (sort.Number k) x =
    the (number_of x) >>= λ a. on_numbers op.Subtract k (negsuc 0) a
unary_of unary.Not (sort.Number k) x = the (number_of x) >>= λ a. give (bool (is_zero a))
unary_of _ _ x = stuck

-- a number, a double, a string and a pointer, taken into a sort (MQL5 Reference, Typecasting). A double loses
-- its fraction before it wraps; a string is the number that it begins with; NULL is the empty string
abbrev pub from_number : Sort → IntKind → ℤ → Change Value
from_number (sort.Number k) j x = give (value.Num k (wrapped k x))
from_number sort.Double j x = no_fault (double_of_whole x) >>= λ z. give (value.Dbl z)
from_number sort.String j x = text (number_text j x)
from_number sort.Pointer j x = stuck

abbrev pub from_double : Sort → ℤ → Change Value
from_double (sort.Number k) x = give (value.Num k (wrapped k (whole_of x)))
from_double sort.Double x = give (value.Dbl x)
from_double sort.String x = text (text_of x)
from_double sort.Pointer x = stuck

abbrev pub from_string : Sort → List ℕ → Change Value
from_string (sort.Number k) s = give (value.Num k (wrapped k (integer_of s)))
from_string sort.Double s = give (value.Dbl (double_of s))
from_string sort.String s = text s
from_string sort.Pointer s = stuck

abbrev pub from_pointer : Sort → ℕ → Change Value
from_pointer (sort.Number kind.Bool) p = give (bool (not (p == 0)))
from_pointer sort.String zero = text []
from_pointer sort.Pointer p = give (value.Ptr p)
from_pointer _ p = stuck

abbrev pub convert_at : Sort → Value-F Value → Change Value
convert_at t (Value-F.Num j x) = from_number t j x
convert_at t (Value-F.Dbl x) = from_double t x
convert_at t (Value-F.Str s) = from_string t s
convert_at t (Value-F.Ptr p) = from_pointer t p
convert_at t _ = stuck

abbrev pub convert : Sort → Value → Change Value
convert t v = convert_at t (out-Value v)

-- the sort of a value
abbrev pub sort_at : Value-F Value → Option Sort
sort_at (Value-F.Num k x) = Some (sort.Number k)
sort_at (Value-F.Dbl x) = Some sort.Double
sort_at (Value-F.Str s) = Some sort.String
sort_at (Value-F.Ptr p) = Some sort.Pointer
sort_at _ = None

abbrev pub sort_of : Value → Option Sort
sort_of v = sort_at (out-Value v)

-- an old value and the new one
pub record Update : Type 0 where
  pub old : Value
  pub new : Value

-- a place gets its old value with an operator and a value: both are taken into the sort, the result back
abbrev pub update : IntOperator → Sort → Value → Place → Change Update
update o t y p = do
  old ← read p
  own ← the (sort_of old)
  x ← convert t old
  z ← binary o t x y
  new ← convert own z
  write new p
  give (record { old = old; new = new })

-- the sort in which 1 is added: kinds smaller than `int` are taken as `int`
abbrev pub bump_sort : Sort → Sort
bump_sort (sort.Number kind.Uint) = sort.Number kind.Uint
bump_sort (sort.Number kind.Long) = sort.Number kind.Long
bump_sort (sort.Number kind.Ulong) = sort.Number kind.Ulong
bump_sort (sort.Number kind.Datetime) = sort.Number kind.Datetime
bump_sort (sort.Number k) = sort.Number kind.Int
bump_sort t = t

-- a place gets 1 more or less
abbrev pub bumped : IntOperator → Place → Change Update
bumped o p = do
  old ← read p
  own ← the (sort_of old)
  y ← convert (bump_sort own) (value.Num kind.Int (pos 1))
  update o (bump_sort own) y p

-- `++` and `--`: before their place they give its new value, behind it the old one
abbrev pub bump_at : Bump → Place → Change Value
bump_at bump.MoreFirst p = bumped op.Add p >>= λ (u : Update). give u.new
bump_at bump.LessFirst p = bumped op.Subtract p >>= λ (u : Update). give u.new
bump_at bump.MoreAfter p = bumped op.Add p >>= λ (u : Update). give u.old
bump_at bump.LessAfter p = bumped op.Subtract p >>= λ (u : Update). give u.old

-- a condition: it holds where its number is not 0
abbrev pub holds : Value → Change Bool
holds v = do
  x ← the (number_of v)
  give (not (is_zero x))
