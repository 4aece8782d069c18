-- Operators on constant numbers: each gives what it gives at run time, and nothing where it would end in an
-- error there (MQL5 Reference, Language Basics: Data Types, Typecasting; Operations and Expressions).
use Rattle.std.specs.Prelude.{ℕ, ℤ, pos, negsuc, Bool, true, false, not, ◌&&◌, ◌||◌, nat_lt, nat_le, ◌-ℤ◌, int_lt, int_le, Option, Some, None, Result, Ok, Err, if◌then◌else◌}
use Rattle.fx8.specs.declared.int_kind.IntKind.{IntKind}
use Rattle.fx8.specs.declared.int_kind.IntKind.TheVariants as kind
use Rattle.fx8.specs.declared.int_operator.IntOperator.{IntOperator}
use Rattle.fx8.specs.declared.int_operator.IntOperator.TheVariants as op
use Rattle.fx8.specs.declared.fix_fault.FixFault.{FixFault}
use Rattle.fx8.specs.Integers.{width, is_signed, wrapped, truth, is_zero}
use Rattle.fx8.specs.Operators.{computed}
use Rattle.fx8.specs.Doubles.{sum_of, difference_of, product_of, quotient_of, double_of_whole, whole_of}
use Rattle.natives.specs.declared.types.ConstantValue.{ConstantValue}
use Rattle.natives.specs.declared.types.ConstantValue.TheVariants.{Integer, Double}
use Rattle.natives.specs.declared.types.SimpleType.{SimpleType}
use Rattle.natives.specs.declared.types.SimpleType.TheVariants as simple

-- kinds of 8 and 16 bits and `bool` are taken as `int`
abbrev pub promoted : IntKind → IntKind
promoted kind.Bool = kind.Int
promoted kind.Char = kind.Int
promoted kind.Uchar = kind.Int
promoted kind.Short = kind.Int
promoted kind.Ushort = kind.Int
promoted kind.Int = kind.Int
promoted kind.Uint = kind.Uint
promoted kind.Long = kind.Long
promoted kind.Ulong = kind.Ulong
promoted kind.Datetime = kind.Datetime
promoted kind.Color = kind.Color

-- `int` or `long` by width
abbrev pub of_width : IntKind → IntKind
of_width k = if nat_le (width k) 32 then kind.Int else kind.Long

-- two kinds with sign and of one width: the same, or `int` or `long`
abbrev pub signed_kind : IntKind → IntKind → IntKind
signed_kind kind.Color kind.Color = kind.Color
signed_kind kind.Color k = kind.Int
signed_kind kind.Datetime kind.Datetime = kind.Datetime
signed_kind kind.Datetime k = kind.Long
signed_kind j k = of_width j

-- the wider of two kinds, at equal width one without sign
abbrev pub wider_kind : IntKind → IntKind → IntKind
wider_kind j k =
    if nat_lt (width j) (width k) then k
    else (if nat_lt (width k) (width j) then j
    else (if not (is_signed j) then j else (if not (is_signed k) then k else signed_kind j k)))

-- the kind in which two numbers are computed
unfoldable pub common_kind : IntKind → IntKind → IntKind
common_kind j k = wider_kind (promoted j) (promoted k)

-- the common type of two numbers: `double` where one is
abbrev pub common_type : ConstantValue → ConstantValue → SimpleType
common_type (Integer j x) (Integer k y) = simple.Integer (common_kind j k)
common_type (Integer j x) (Double y) = simple.Double
common_type (Double x) b = simple.Double

-- a truth
abbrev pub bool : Bool → ConstantValue
bool b = Integer kind.Bool (truth b)

-- a double, if there is one
abbrev pub real : Result ℤ FixFault → Option ConstantValue
real (Ok x) = Some (Double x)
real (Err e) = None

-- a number of a kind, if there is one
abbrev pub whole : IntKind → Result ℤ FixFault → Option ConstantValue
whole k (Ok x) = Some (Integer k x)
whole k (Err e) = None

-- the whole number of a double, toward zero
abbrev pub whole_number : ℤ → ℤ
whole_number x = whole_of x

-- a number taken into a type: a double loses its fraction before it wraps
abbrev pub converted : SimpleType → ConstantValue → Option ConstantValue
converted (simple.Integer k) (Integer j x) = Some (Integer k (wrapped k x))
converted (simple.Integer k) (Double x) = Some (Integer k (wrapped k (whole_number x)))
converted simple.Double (Integer j x) = real (double_of_whole x)
converted simple.Double (Double x) = Some (Double x)
converted simple.String a = None

-- a number as a condition: it holds where its whole number is not 0
abbrev pub holds : ConstantValue → Bool
holds (Integer k x) = not (is_zero x)
holds (Double x) = not (is_zero (whole_number x))

-- a comparison gives a `bool`, another operator a number of its kind
abbrev pub result_kind : IntOperator → IntKind → IntKind
result_kind op.Less k = kind.Bool
result_kind op.LessOrEqual k = kind.Bool
result_kind op.Greater k = kind.Bool
result_kind op.GreaterOrEqual k = kind.Bool
result_kind op.Equal k = kind.Bool
result_kind op.NotEqual k = kind.Bool
result_kind _ k = k

-- an operator on numbers, which are taken into its kind and wrap in it
unfoldable pub on_integers : IntOperator → IntKind → ℤ → ℤ → Option ConstantValue
on_integers o k x y = whole (result_kind o k) (computed o k (wrapped k x) (wrapped k y))

-- an operator on doubles; `%`, shifts and operators on bits have none
unfoldable pub on_doubles : IntOperator → ℤ → ℤ → Option ConstantValue
on_doubles op.Add x y = real (sum_of x y)
on_doubles op.Subtract x y = real (difference_of x y)
on_doubles op.Multiply x y = real (product_of x y)
on_doubles op.Divide x y = real (quotient_of x y)
on_doubles op.Less x y = Some (bool (int_lt x y))
on_doubles op.LessOrEqual x y = Some (bool (int_le x y))
on_doubles op.Greater x y = Some (bool (int_lt y x))
on_doubles op.GreaterOrEqual x y = Some (bool (int_le y x))
on_doubles op.Equal x y = Some (bool (is_zero (x -ℤ y)))
on_doubles op.NotEqual x y = Some (bool (not (is_zero (x -ℤ y))))
on_doubles _ x y = None

-- an operator on two numbers of one type
abbrev pub on_like : IntOperator → SimpleType → ConstantValue → ConstantValue → Option ConstantValue
on_like o (simple.Integer k) (Integer i x) (Integer j y) = on_integers o k x y
on_like o simple.Double (Double x) (Double y) = on_doubles o x y
on_like o _ _ _ = None

abbrev pub on_converted :
    IntOperator → SimpleType → Option ConstantValue → Option ConstantValue → Option ConstantValue
on_converted o t (Some a) (Some b) = on_like o t a b
on_converted o t (Some a) None = None
on_converted o t None b = None

-- an operator on two numbers, in their common type
unfoldable pub binary : IntOperator → ConstantValue → ConstantValue → Option ConstantValue
binary o a b = let t = common_type a b in on_converted o t (converted t a) (converted t b)

-- the negative is what is left of 0, the complement of x is -1 - x
unfoldable pub negative : ConstantValue → Option ConstantValue
negative (Integer k x) = on_integers op.Subtract (promoted k) (pos 0) x
negative (Double x) = real (difference_of (pos 0) x)

unfoldable pub complement : ConstantValue → Option ConstantValue
complement (Integer k x) = on_integers op.Subtract (promoted k) (negsuc 0) x
complement (Double x) = None

-- what `+` before it gives
unfoldable pub same_number : ConstantValue → ConstantValue
same_number (Integer k x) = Integer (promoted k) (wrapped (promoted k) x)
same_number (Double x) = Double x

-- `t ? a : b`, of the common type of a and b
unfoldable pub chosen : ConstantValue → ConstantValue → ConstantValue → Option ConstantValue
chosen t a b = converted (common_type a b) (if holds t then a else b)
