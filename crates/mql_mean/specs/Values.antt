-- What a value is.
use Rattle.std.specs.Prelude.{ℤ, Bool, true, false, ◌&&◌, Option, Some, None}
use Rattle.mql_mean.specs.declared.value.Value.{Value, out-Value}
use Rattle.mql_mean.specs.declared.value.Value.TheOpen.{Value-F}
use Rattle.fx8.specs.Integers.{is_zero}
use Rattle.fx8.specs.declared.int_kind.IntKind.{IntKind}
use Rattle.fx8.specs.declared.int_kind.IntKind.TheVariants as kind

-- the kind int
abbrev pub is_int : IntKind → Bool
is_int kind.Int = true
is_int _ = false

-- the number 0 of the kind int, which stands for the value of a void function (own)
abbrev pub is_void_at : Value-F Value → Bool
is_void_at (Value-F.Num k x) = is_int k && is_zero x
is_void_at (Value-F.Dbl x) = false
is_void_at (Value-F.Str s) = false
is_void_at (Value-F.Ptr p) = false
is_void_at (Value-F.Arr vs) = false
is_void_at (Value-F.Rec vs) = false

-- a value stands for that of a void function
abbrev pub is_void : Value → Bool
is_void v = is_void_at (out-Value v)

-- the number of a value, if it is one of an integer kind
abbrev pub number_at : Value-F Value → Option ℤ
number_at (Value-F.Num k x) = Some x
number_at (Value-F.Dbl x) = None
number_at (Value-F.Str s) = None
number_at (Value-F.Ptr p) = None
number_at (Value-F.Arr vs) = None
number_at (Value-F.Rec vs) = None

abbrev pub number_of : Value → Option ℤ
number_of v = number_at (out-Value v)
