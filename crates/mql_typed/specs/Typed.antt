-- Typed expressions: values, places and conversions (MQL5 Reference, Language Basics, Typecasting).
use Rattle.std.specs.Prelude.{ℕ, ℤ, Bool, true, false, List, [], ◌∷◌, Option, Some, None, if◌then◌else◌}
use Rattle.fx8.specs.declared.int_kind.IntKind.TheVariants as kind
use Rattle.natives.specs.declared.types.SimpleType.TheVariants as simple
use Rattle.mql_mean.specs.declared.value.Value.TheVariants as value
use Rattle.mql_meaning.specs.declared.types.VarType.{VarType}
use Rattle.mql_meaning.specs.declared.types.Base as meaning
use Rattle.mql_meaning.specs.declared.types.Base.TheVariants as held
use Rattle.mql_meaning.specs.declared.types.Sort.{Sort}
use Rattle.mql_meaning.specs.declared.types.Sort.TheVariants as sort
use Rattle.mql_meaning.specs.declared.operator.Operator.{Operator}
use Rattle.mql_meaning.specs.declared.operator.Operator.TheVariants as operator
use Rattle.mql_meaning.specs.declared.tree.Expression.{Expression}
use Rattle.mql_meaning.specs.declared.tree.Expression.TheVariants as expression
use Rattle.mql_types.specs.declared.types.Base.{Base}
use Rattle.mql_types.specs.declared.types.Base.TheVariants as base
use Rattle.mql_types.specs.declared.types.DataType.{DataType}
use Rattle.mql_types.specs.declared.dimensions.Dimensions.{Dimensions}
use Rattle.mql_types.specs.declared.dimensions.Dimensions.TheVariants as dims
use Rattle.mql_types.specs.Types.{same, sort_of, sort_base, is_array}
use Rattle.mql_typed.specs.declared.info.Info.{Info}
use Rattle.mql_typed.specs.declared.info.Standing.{Standing}
use Rattle.mql_typed.specs.declared.info.Standing.TheVariants as stand

-- a place; one that may be assigned or lent, constant or not; one that may not be changed; that of an input
abbrev pub is_place : Standing → Bool
is_place stand.Value = false
is_place _ = true

abbrev pub is_lasting : Standing → Bool
is_lasting stand.Value = false
is_lasting stand.Kept = false
is_lasting _ = true

abbrev pub is_fixed : Standing → Bool
is_fixed stand.Constant = true
is_fixed stand.Input = true
is_fixed _ = false

abbrev pub is_input : Standing → Bool
is_input stand.Input = true
is_input _ = false

-- operators on one or two parts
abbrev pub on_one : Operator → Expression → Expression
on_one o a = expression.Apply o (a ∷ [])

abbrev pub on_two : Operator → Expression → Expression → Expression
on_two o a b = expression.Apply o (a ∷ b ∷ [])

abbrev pub int : ℤ → Expression
int x = expression.Constant (value.Num kind.Int x)

-- a type without dimensions, and that of an array
abbrev pub single : Base → DataType
single b = record { base = b; dimensions = dims.None }

-- the type of what stands at a type that is no array
abbrev pub single_base : DataType → Option Base
single_base t = if is_array t.dimensions then None else Some t.base

abbrev pub single_in : Option DataType → Option Base
single_in None = None
single_in (Some t) = single_base t

-- the type of the value that an expression gives; none where it is an array, or gives nothing
abbrev pub value_base : Info → Option Base
value_base i = single_in i.of

-- the value of an expression: what stands at its place is read
abbrev pub value_of : Info → Expression
value_of i = if is_place i.standing then on_one operator.Read i.typed else i.typed

-- an expression of a sort, taken into another one
abbrev pub into : Option Sort → Option Sort → Expression → Expression
into (Some s) (Some t) e = if same (sort_base s) (sort_base t) then e else on_one (operator.Convert t) e
into _ _ e = e

abbrev pub sort_in : Option Base → Option Sort
sort_in None = None
sort_in (Some b) = sort_of b

-- the value of an expression, taken into a type or a sort
abbrev pub into_sort : Sort → Info → Expression
into_sort t i = into (sort_in (value_base i)) (Some t) (value_of i)

abbrev pub converted : Base → Info → Expression
converted b i = into (sort_in (value_base i)) (sort_of b) (value_of i)

-- as a condition: what is not 0 holds, where a `double` loses its fraction first
abbrev pub condition : Info → Expression
condition i = into_sort (sort.Number kind.Bool) i

-- what a variable of a type holds
abbrev pub held_base : Base → meaning.Base
held_base (base.Simple (simple.Integer k)) = held.Number k
held_base (base.Simple simple.Double) = held.Double
held_base (base.Simple simple.String) = held.String
held_base (base.Enumeration n) = held.Number kind.Int
held_base (base.Structure n) = held.Structure n
held_base base.Null = held.Pointer 0

abbrev pub sizes : Dimensions → List ℕ
sizes dims.None = []
sizes (dims.One a) = a ∷ []
sizes (dims.Two a b) = a ∷ b ∷ []
sizes (dims.Three a b c) = a ∷ b ∷ c ∷ []
sizes (dims.Four a b c d) = a ∷ b ∷ c ∷ d ∷ []

abbrev pub var_type : DataType → VarType
var_type t = record { base = held_base t.base; dimensions = sizes t.dimensions }

-- what is told of a value, of nothing, and of a place
abbrev pub a_value : Base → List VarType → Expression → Info
a_value b kept e = record { of = Some (single b); standing = stand.Value; typed = e; kept = kept }

abbrev pub nothing : List VarType → Expression → Info
nothing kept e = record { of = None; standing = stand.Value; typed = e; kept = kept }

abbrev pub a_place : DataType → Standing → List VarType → Expression → Info
a_place t s kept e = record { of = Some t; standing = s; typed = e; kept = kept }
