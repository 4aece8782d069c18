-- Conversions (MQL5 Reference, Language Basics, Data Types, Typecasting; Functions, Function Overloading).
use Rattle.std.specs.Prelude.{ℕ, Bool, true, false, not, ◌&&◌, ◌||◌, nat_lt, nat_le, Option, Some, None, is_some, if◌then◌else◌}
use Rattle.fx8.specs.declared.int_kind.IntKind.{IntKind}
use Rattle.fx8.specs.declared.int_kind.IntKind.TheVariants as kind
use Rattle.fx8.specs.Integers.{width, is_signed, is_bool}
use Rattle.natives.specs.declared.types.SimpleType.{SimpleType}
use Rattle.natives.specs.declared.types.SimpleType.TheVariants as simple
use Rattle.mql_types.specs.declared.types.Base.{Base}
use Rattle.mql_types.specs.declared.types.Base.TheVariants as base
use Rattle.mql_types.specs.Types.{same_kind, same}

-- kinds of 8 and 16 bits are taken as `int`
abbrev pub promoted : IntKind → IntKind
promoted k = if nat_lt (width k) 32 then kind.Int else k

-- of two signed kinds of one width that differ: `int` or `long`
abbrev pub plain_signed : IntKind → IntKind
plain_signed k = if nat_lt (width k) 64 then kind.Int else kind.Long

-- the wider of two kinds, at equal width the unsigned one
abbrev pub wider_kind : IntKind → IntKind → IntKind
wider_kind j k =
    if nat_lt (width j) (width k) then k
    else if nat_lt (width k) (width j) then j
    else if not (is_signed j) then j
    else if not (is_signed k) then k
    else if same_kind j k then j
    else plain_signed j

abbrev pub common_kind : IntKind → IntKind → IntKind
common_kind j k = wider_kind (promoted j) (promoted k)

-- a number's type; an enumeration is an `int`
abbrev pub number : Base → Option SimpleType
number (base.Simple (simple.Integer k)) = Some (simple.Integer k)
number (base.Simple simple.Double) = Some simple.Double
number (base.Enumeration n) = Some (simple.Integer kind.Int)
number _ = None

abbrev pub is_number : Base → Bool
is_number a = is_some (number a)

-- the common type of two numbers: `double` where one is
abbrev pub wider : SimpleType → SimpleType → SimpleType
wider (simple.Integer j) (simple.Integer k) = simple.Integer (common_kind j k)
wider _ _ = simple.Double

abbrev pub wider_of : Option SimpleType → Option SimpleType → Option SimpleType
wider_of (Some s) (Some t) = Some (wider s t)
wider_of _ _ = None

abbrev pub common_number : Base → Base → Option SimpleType
common_number a b = wider_of (number a) (number b)

abbrev pub is_string : Base → Bool
is_string (base.Simple simple.String) = true
is_string _ = false

abbrev pub is_null : Base → Bool
is_null base.Null = true
is_null _ = false

-- a number or a string
abbrev pub is_simple : Base → Bool
is_simple a = is_number a || is_string a

-- a value of the first type is converted where one of the second is asked for: numbers and strings to each
-- other, `NULL` to the empty string, a structure to its own type alone
abbrev pub fits : Base → Base → Bool
fits a b = same a b || ((is_simple a && is_simple b) || (is_null a && is_string b))

-- a kind has all values of another one
abbrev pub holds_kind : IntKind → IntKind → Bool
holds_kind k j =
    if is_bool k then is_bool j
    else if is_bool j then true
    else if is_signed j then is_signed k && nat_le (width j) (width k)
    else if is_signed k then nat_lt (width j) (width k)
    else nat_le (width j) (width k)

-- a `double` has all values of the kinds of at most 32 bits
abbrev pub holds : SimpleType → SimpleType → Bool
holds (simple.Integer k) (simple.Integer j) = holds_kind k j
holds simple.Double (simple.Integer j) = nat_le (width j) 32
holds _ _ = false

abbrev pub number_cost : Option SimpleType → Option SimpleType → ℕ
number_cost (Some s) (Some t) = if holds t s then 1 else 2
number_cost _ _ = 3

-- what it costs to hand a value of the first type to a parameter of the second, where it fits: 0 for the same
-- type, 1 to a kind that has all values, 2 to another number, 3 to or from a string
abbrev pub cost : Base → Base → ℕ
cost a b = if same a b then 0 else number_cost (number a) (number b)
