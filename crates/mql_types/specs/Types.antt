-- Types (MQL5 Reference, Language Basics, Data Types; Arrays).
use Rattle.std.specs.Prelude.{ℕ, Bool, true, false, ◌&&◌, ◌==◌, Option, Some, None}
use Rattle.fx8.specs.declared.int_kind.IntKind.{IntKind}
use Rattle.fx8.specs.declared.int_kind.IntKind.TheVariants as kind
use Rattle.natives.specs.declared.types.SimpleType.{SimpleType}
use Rattle.natives.specs.declared.types.SimpleType.TheVariants as simple
use Rattle.mql_meaning.specs.declared.types.Sort.{Sort}
use Rattle.mql_meaning.specs.declared.types.Sort.TheVariants as sort
use Rattle.mql_types.specs.declared.types.Base.{Base}
use Rattle.mql_types.specs.declared.types.Base.TheVariants as base
use Rattle.mql_types.specs.declared.types.DataType.{DataType}
use Rattle.mql_types.specs.declared.dimensions.Dimensions.{Dimensions}
use Rattle.mql_types.specs.declared.dimensions.Dimensions.TheVariants as dims

abbrev pub kind_number : IntKind → ℕ
kind_number kind.Bool = 0
kind_number kind.Char = 1
kind_number kind.Uchar = 2
kind_number kind.Short = 3
kind_number kind.Ushort = 4
kind_number kind.Int = 5
kind_number kind.Uint = 6
kind_number kind.Long = 7
kind_number kind.Ulong = 8
kind_number kind.Datetime = 9
kind_number kind.Color = 10

abbrev pub same_kind : IntKind → IntKind → Bool
same_kind j k = kind_number j == kind_number k

abbrev pub same_simple : SimpleType → SimpleType → Bool
same_simple (simple.Integer j) (simple.Integer k) = same_kind j k
same_simple simple.Double simple.Double = true
same_simple simple.String simple.String = true
same_simple _ _ = false

-- two types are one
abbrev pub same : Base → Base → Bool
same (base.Simple s) (base.Simple t) = same_simple s t
same (base.Enumeration m) (base.Enumeration n) = m == n
same (base.Structure m) (base.Structure n) = m == n
same base.Null base.Null = true
same _ _ = false

abbrev pub is_array : Dimensions → Bool
is_array dims.None = false
is_array _ = true

-- the same dimensions but for the size of the first
abbrev pub alike : Dimensions → Dimensions → Bool
alike dims.None dims.None = true
alike (dims.One a) (dims.One e) = true
alike (dims.Two a b) (dims.Two e f) = b == f
alike (dims.Three a b c) (dims.Three e f g) = b == f && c == g
alike (dims.Four a b c d) (dims.Four e f g h) = b == f && (c == g && d == h)
alike _ _ = false

-- a variable of the one may be lent as one of the other
abbrev pub same_type : DataType → DataType → Bool
same_type t u = same t.base u.base && alike t.dimensions u.dimensions

-- the dimensions of what stands at a place of the first dimension
abbrev pub element_dimensions : Dimensions → Dimensions
element_dimensions dims.None = dims.None
element_dimensions (dims.One a) = dims.None
element_dimensions (dims.Two a b) = dims.One b
element_dimensions (dims.Three a b c) = dims.Two b c
element_dimensions (dims.Four a b c d) = dims.Three b c d

-- one dimension, whose size changes
abbrev pub is_dynamic : Dimensions → Bool
is_dynamic (dims.One n) = n == 0
is_dynamic _ = false

-- the sort in which operators work on values of a type: an enumeration is an `int`, structures have none
abbrev pub sort_of : Base → Option Sort
sort_of (base.Simple (simple.Integer k)) = Some (sort.Number k)
sort_of (base.Simple simple.Double) = Some sort.Double
sort_of (base.Simple simple.String) = Some sort.String
sort_of (base.Enumeration n) = Some (sort.Number kind.Int)
sort_of (base.Structure n) = None
sort_of base.Null = Some sort.Pointer

-- the type of the values of a sort
abbrev pub sort_base : Sort → Base
sort_base (sort.Number k) = base.Simple (simple.Integer k)
sort_base sort.Double = base.Simple simple.Double
sort_base sort.String = base.Simple simple.String
sort_base sort.Pointer = base.Null
