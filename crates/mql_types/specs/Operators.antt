-- Operators between values (MQL5 Reference, Language Basics, Operations and Expressions): the sort in which
-- an operator works, and the type of what it gives.
use Rattle.std.specs.Prelude.{Bool, true, false, not, ◌&&◌, ◌||◌, Option, Some, None, is_none, option_map, if◌then◌else◌}
use Rattle.fx8.specs.declared.int_kind.IntKind.TheVariants as kind
use Rattle.fx8.specs.declared.int_operator.IntOperator.{IntOperator}
use Rattle.fx8.specs.declared.int_operator.IntOperator.TheVariants as op
use Rattle.natives.specs.declared.types.SimpleType.{SimpleType}
use Rattle.natives.specs.declared.types.SimpleType.TheVariants as simple
use Rattle.mql_meaning.specs.declared.types.Sort.{Sort}
use Rattle.mql_meaning.specs.declared.types.Sort.TheVariants as sort
use Rattle.mql_meaning.specs.Operators.{compares}
use Rattle.mql_types.specs.declared.types.Base.{Base}
use Rattle.mql_types.specs.declared.types.Base.TheVariants as base
use Rattle.mql_types.specs.Types.{same, sort_base}
use Rattle.mql_types.specs.Conversions.{promoted, number, is_number, common_number, is_string, is_null, fits}

abbrev pub string : Base
string = base.Simple simple.String

abbrev pub bool : Base
bool = base.Simple (simple.Integer kind.Bool)

-- operators on integers alone
abbrev pub is_integral : IntOperator → Bool
is_integral op.Remainder = true
is_integral op.ShiftLeft = true
is_integral op.ShiftRight = true
is_integral op.BitAnd = true
is_integral op.BitOr = true
is_integral op.BitXor = true
is_integral _ = false

abbrev pub is_add : IntOperator → Bool
is_add op.Add = true
is_add _ = false

abbrev pub is_equality : IntOperator → Bool
is_equality op.Equal = true
is_equality op.NotEqual = true
is_equality _ = false

abbrev pub is_double : Base → Bool
is_double (base.Simple simple.Double) = true
is_double _ = false

abbrev pub is_structure : Base → Bool
is_structure (base.Structure n) = true
is_structure _ = false

abbrev pub simple_sort : SimpleType → Sort
simple_sort (simple.Integer k) = sort.Number k
simple_sort simple.Double = sort.Double
simple_sort simple.String = sort.String

-- two numbers work in their common type
abbrev pub number_sort : Base → Base → Option Sort
number_sort a b = option_map simple_sort (common_number a b)

-- no sort where it is that of `double`
abbrev pub integral : Option Sort → Option Sort
integral (Some (sort.Number k)) = Some (sort.Number k)
integral _ = None

-- beside a string the other value becomes one
abbrev pub are_texts : Base → Base → Bool
are_texts a b = (is_string a && fits b string) || (is_string b && fits a string)

abbrev pub joined_sort : Base → Base → Option Sort
joined_sort a b = if are_texts a b then Some sort.String else number_sort a b

-- `NULL` equals itself
abbrev pub compared_sort : IntOperator → Base → Base → Option Sort
compared_sort o a b =
    if is_equality o && (is_null a && is_null b) then Some sort.Pointer else joined_sort a b

-- the sort in which an operator works on values of two types; none where a rule forbids it
abbrev pub binary_sort : IntOperator → Base → Base → Option Sort
binary_sort o a b =
    if is_integral o then integral (number_sort a b)
    else if is_add o then joined_sort a b
    else if compares o then compared_sort o a b
    else number_sort a b

-- a comparison gives a `bool`
abbrev pub result_base : IntOperator → Sort → Base
result_base o s = if compares o then bool else sort_base s

-- 14 an operand is no number (`+` and comparisons take strings too)
abbrev pub no_numbers : IntOperator → Base → Base → Bool
no_numbers o a b =
    if is_integral o then not (is_number a && is_number b)
    else is_none (binary_sort o a b) && not (compares o && (is_structure a || is_structure b))

-- 15 `%`, a shift or an operator on bits, on a `double`
abbrev pub bits_of_double : IntOperator → Base → Base → Bool
bits_of_double o a b = is_integral o && (is_double a || is_double b)

-- 16 a comparison of structures
abbrev pub compares_structures : IntOperator → Base → Base → Bool
compares_structures o a b = compares o && (is_structure a || is_structure b)

-- the sort in which `-`, `+` and `~` work on a number
abbrev pub promoted_sort : SimpleType → Sort
promoted_sort (simple.Integer k) = sort.Number (promoted k)
promoted_sort t = simple_sort t

abbrev pub unary_sort : Base → Option Sort
unary_sort a = option_map promoted_sort (number a)

-- the common type of the branches of `?:`
abbrev pub branches : Base → Base → Option Base
branches a b = if same a b then Some a else option_map sort_base (joined_sort a b)
