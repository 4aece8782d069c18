-- Calls of native functions, by the table of what they take and give (MQL5 Reference, the chapters of the
-- functions).
use Rattle.std.specs.Prelude.{ℕ, ◌+◌, ℤ, pos, Bool, true, false, not, ◌&&◌, ◌||◌, ◌==◌, List, [], ◌∷◌, ◌++◌, length, map, codes, Option, Some, None, is_some, is_none, option_map, slice_get, if◌then◌else◌}
use Rattle.fx8.specs.declared.int_kind.IntKind.TheVariants as kind
use Rattle.natives.specs.declared.types.SimpleType.{SimpleType}
use Rattle.natives.specs.declared.types.SimpleType.TheVariants as simple
use Rattle.natives.specs.declared.types.Structure.{Structure}
use Rattle.natives.specs.declared.types.Structure.TheVariants as supplied
use Rattle.natives.specs.declared.signature.Elements.{Elements}
use Rattle.natives.specs.declared.signature.Elements.TheVariants as elements
use Rattle.natives.specs.declared.signature.Parameter.{Parameter}
use Rattle.natives.specs.declared.signature.ParameterKind.{ParameterKind}
use Rattle.natives.specs.declared.signature.ParameterKind.TheVariants as parameter
use Rattle.natives.specs.declared.signature.Passing.{Passing}
use Rattle.natives.specs.declared.signature.Passing.TheVariants as passing
use Rattle.natives.specs.declared.signature.ResultType.{ResultType}
use Rattle.natives.specs.declared.signature.ResultType.TheVariants as results
use Rattle.natives.specs.declared.native.Native.{Native}
use Rattle.natives.specs.declared.native.Native.TheVariants as natives
use Rattle.natives.specs.Signatures.{signature, is_rest, may_lack}
use Rattle.mql_mean.specs.declared.value.Value.{Value}
use Rattle.mql_mean.specs.declared.value.Value.TheVariants as value
use Rattle.mql_meaning.specs.declared.types.VarType.{VarType}
use Rattle.mql_meaning.specs.declared.tree.Expression.{Expression}
use Rattle.mql_meaning.specs.declared.tree.Expression.TheVariants as expression
use Rattle.mql_meaning.specs.declared.tree.Member.{Member}
use Rattle.mql_types.specs.declared.types.Base.{Base}
use Rattle.mql_types.specs.declared.types.Base.TheVariants as base
use Rattle.mql_types.specs.declared.types.DataType.{DataType}
use Rattle.mql_types.specs.Types.{same, same_type, is_array, is_dynamic}
use Rattle.mql_types.specs.Conversions.{is_number, common_number, fits, is_null}
use Rattle.mql_types.specs.Operators.{string}
use Rattle.mql_scope.specs.declared.context.Enumeration.{Enumeration}
use Rattle.mql_typed.specs.declared.info.Info.{Info}
use Rattle.mql_scope.specs.Contexts.{Text, Program}
use Rattle.mql_typed.specs.Typed.{is_lasting, is_fixed, single, value_base, value_of, converted, a_value, nothing}
use Rattle.mql_calls.specs.Nodes.{passes, all_kept}

-- the numbers of the supplied structures
abbrev pub supplied_number : Structure → ℕ
supplied_number supplied.MqlTradeRequest = 0
supplied_number supplied.MqlTradeResult = 1
supplied_number supplied.MqlTick = 2
supplied_number supplied.MqlRates = 3
supplied_number supplied.MqlDateTime = 4

abbrev pub supplied_base : Structure → Base
supplied_base s = base.Structure (supplied_number s)

-- the type of an argument's elements, if it is an array; an argument's value of a type
abbrev pub element_in : Option DataType → Option Base
element_in None = None
element_in (Some t) = if is_array t.dimensions then Some t.base else None

abbrev pub element : Info → Option Base
element i = element_in i.of

abbrev pub has_value : (Base → Bool) → Info → Bool
has_value test i = passes test (value_base i)

-- a place of exactly this type
abbrev pub is_place_of : DataType → Info → Bool
is_place_of t i = is_lasting i.standing && passes (λ u. same_type u t) i.of

-- a value that fits, or a place of the type, as the argument is handed over
abbrev pub takes_as : Passing → Base → Info → Bool
takes_as passing.Value b i = has_value (λ a. fits a b) i
takes_as passing.Reference b i = is_place_of (single b) i

-- elements that an array may have, beside the array before it
abbrev pub are_numbers : Base → Base → Bool
are_numbers a b = is_number a && is_number b

abbrev pub match : Base → Base → Bool
match a b = same a b || are_numbers a b

abbrev pub elements_fit : Elements → Option Base → Base → Bool
elements_fit elements.Any before b = true
elements_fit elements.Numbers before b = is_number b
elements_fit elements.Matching before b = passes (match b) before
elements_fit (elements.Simple t) before b = same b (base.Simple t)
elements_fit (elements.Structures s) before b = same b (supplied_base s)

abbrev pub is_enumeration : Base → Bool
is_enumeration (base.Enumeration n) = true
is_enumeration _ = false

-- a number, a value of an enumeration or a string; `NULL` is the empty string
abbrev pub is_text : Base → Bool
is_text b = fits b string

-- what the function may change is a place of the program
abbrev pub may_pass : Passing → Info → Bool
may_pass passing.Value i = true
may_pass passing.Reference i = is_lasting i.standing

-- a parameter takes an argument, where this is the type of the elements of the array before it. There are no
-- objects of classes yet; a pointer is `NULL`
abbrev pub kind_takes : ParameterKind → Passing → Option Base → Info → Bool
kind_takes (parameter.Simple t) how before i = takes_as how (base.Simple t) i
kind_takes parameter.Number how before i = has_value is_number i
kind_takes parameter.Common how before i = has_value is_number i
kind_takes parameter.Enumeration how before i = has_value is_enumeration i
kind_takes parameter.Object how before i = false
kind_takes parameter.Pointer how before i = has_value is_null i
kind_takes (parameter.Structure s) how before i = takes_as how (supplied_base s) i
kind_takes (parameter.Array e) how before i = passes (elements_fit e before) (element i) && may_pass how i
kind_takes parameter.Variable how before i = is_lasting i.standing
kind_takes parameter.Rest how before i = has_value is_text i

abbrev pub all_texts : List Info → Bool
all_texts [] = true
all_texts (i ∷ is) = has_value is_text i && all_texts is

-- parameters that are left over may be left out
abbrev pub all_may_lack : List Parameter → Bool
all_may_lack [] = true
all_may_lack (q ∷ qs) = may_lack q && all_may_lack qs

-- the parameters take the arguments
abbrev pub takes_native : List Parameter → Option Base → List Info → Bool
takes_native qs before [] = all_may_lack qs
takes_native [] before (i ∷ is) = false
takes_native (q ∷ qs) before (i ∷ is) =
    if is_rest q.kind then all_texts (i ∷ is)
    else kind_takes q.kind q.passing before i && takes_native qs (element i) is

-- 7 wrong arguments of a native function
abbrev pub wrong_arguments : Native → List Info → Bool
wrong_arguments f is = not (takes_native (signature f).parameters None is)

-- 10 a constant is lent for change
abbrev pub changes : Passing → Bool
changes passing.Reference = true
changes passing.Value = false

abbrev pub is_lent_fixed : Parameter → Info → Bool
is_lent_fixed q i = changes q.passing && is_fixed i.standing

abbrev pub lends_fixed : List Parameter → List Info → Bool
lends_fixed (q ∷ qs) (i ∷ is) = is_lent_fixed q i || lends_fixed qs is
lends_fixed _ _ = false

abbrev pub lends_native : Native → List Info → Bool
lends_native f is = lends_fixed (signature f).parameters is

-- 38 a series flag on an array that is not dynamic with one dimension
abbrev pub sets_series : Native → Bool
sets_series natives.ArraySetAsSeries = true
sets_series _ = false

abbrev pub is_line : Info → Bool
is_line i = passes (λ (t : DataType). is_dynamic t.dimensions) i.of

abbrev pub is_other_array : Info → Bool
is_other_array i = is_some (element i) && not (is_line i)

abbrev pub flags_no_line : Native → List Info → Bool
flags_no_line f (i ∷ is) = sets_series f && is_other_array i
flags_no_line f [] = false

-- the common type of numbers
abbrev pub common_pair : Base → Info → Base
common_pair b i =
    elim (value_base i) [
      | None ↦ b
      | Some a ↦ elim (common_number a b) [ None ↦ b | Some t ↦ base.Simple t ]
    ]

abbrev pub common_of : Base → List Info → Base
common_of b [] = b
common_of b (i ∷ is) = common_of (common_pair b i) is

-- that of one number is what it has in common with itself
abbrev pub common_self : Option Base → Info → Base
common_self None i = base.Simple (simple.Integer kind.Int)
common_self (Some b) i = common_pair b i

abbrev pub common : List Info → Base
common [] = base.Simple (simple.Integer kind.Int)
common (i ∷ is) = common_of (common_self (value_base i) i) is

-- the name of a value of an enumeration: that of the first member with the value, else the type's and the number
abbrev pub member_texts : List Member → List Text
member_texts ms = map (λ (m : Member). m.name) ms

abbrev pub member_values : List Member → List Value
member_values ms = map (λ (m : Member). value.Num kind.Int m.value) ms

abbrev pub name_of_value : Info → Enumeration → Expression
name_of_value i e =
    expression.Named (member_texts e.members) (member_values e.members) (e.name ++ codes "::")
    (value_of i ∷ [])

abbrev pub enumeration_of : Program → Option Base → Option Enumeration
enumeration_of p (Some (base.Enumeration n)) = slice_get p.enumerations n
enumeration_of p _ = None

abbrev pub plain_name : Info → Expression
plain_name i = expression.Native natives.EnumToString (value_of i ∷ [])

abbrev pub named_value : Program → List Info → Expression
named_value p [] = expression.Native natives.EnumToString []
named_value p (i ∷ is) =
    elim (enumeration_of p (value_base i)) [
      | None ↦ plain_name i
      | Some e ↦ name_of_value i e
    ]

-- the number that stands for an argument that is left out
abbrev pub default_value : ParameterKind → ℤ → Value
default_value (parameter.Simple (simple.Integer k)) n = value.Num k n
default_value _ n = value.Num kind.Int n

abbrev pub defaults : List Parameter → List Expression
defaults [] = []
defaults (q ∷ qs) =
    elim (q.default) [
      | None ↦ defaults qs
      | Some n ↦ expression.Constant (default_value q.kind n) ∷ defaults qs
    ]

-- an argument as the function gets it, where numbers are taken into this common type and the array before it
-- has these elements
abbrev pub by_passing : Passing → Base → Info → Expression
by_passing passing.Value b i = converted b i
by_passing passing.Reference b i = i.typed

abbrev pub into_elements : Option Base → Info → Expression
into_elements None i = value_of i
into_elements (Some b) i = converted b i

abbrev pub as_text : Info → Expression
as_text i = if has_value is_null i then converted string i else value_of i

abbrev pub given : ParameterKind → Passing → Base → Option Base → Info → Expression
given (parameter.Simple t) how numbers before i = by_passing how (base.Simple t) i
given parameter.Number how numbers before i = into_elements before i
given parameter.Common how numbers before i = converted numbers i
given (parameter.Structure s) how numbers before i = by_passing how (supplied_base s) i
given (parameter.Array e) how numbers before i = i.typed
given parameter.Variable how numbers before i = i.typed
given _ how numbers before i = value_of i

abbrev pub native_parts : List Parameter → Base → Option Base → List Info → List Expression
native_parts qs numbers before [] = defaults qs
native_parts [] numbers before (i ∷ is) = []
native_parts (q ∷ qs) numbers before (i ∷ is) =
    if is_rest q.kind then map as_text (i ∷ is)
    else given q.kind q.passing numbers before i ∷ native_parts qs numbers (element i) is

-- what is told of the call
abbrev pub names_value : Native → Bool
names_value natives.EnumToString = true
names_value _ = false

abbrev pub native_expression : Program → Native → List Info → Expression
native_expression p f is =
    if names_value f then named_value p is
    else expression.Native f (native_parts (signature f).parameters (common is) None is)

abbrev pub native_given : ResultType → Base → List VarType → Expression → Info
native_given results.Void numbers kept e = nothing kept e
native_given (results.Simple t) numbers kept e = a_value (base.Simple t) kept e
native_given results.Common numbers kept e = a_value numbers kept e
native_given results.Pointer numbers kept e = a_value base.Null kept e

abbrev pub native_info : Program → Native → List Info → Info
native_info p f is = native_given (signature f).result (common is) (all_kept is) (native_expression p f is)
