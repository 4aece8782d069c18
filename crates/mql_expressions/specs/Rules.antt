-- The rules of expressions, one named test each, in the order of their numbers (MQL5 Reference, Language
-- Basics, Operations and Expressions; Functions). A rule that asks about a part that tells nothing is not
-- broken.
use Rattle.std.specs.Prelude.{ℕ, ◌+◌, Bool, true, false, not, ◌&&◌, ◌||◌, List, [], ◌∷◌, ◌++◌, Option, Some, None, is_none, is_some, option_map, bytes_eq, slice_get, if◌then◌else◌}
use Rattle.fx8.specs.declared.int_operator.IntOperator.{IntOperator}
use Rattle.fx8.specs.declared.int_operator.IntOperator.TheVariants as op
use Rattle.natives.specs.declared.native.Native.{Native}
use Rattle.mql_syntax.specs.declared.kind.BinaryOperator.{BinaryOperator}
use Rattle.mql_syntax.specs.declared.kind.BinaryOperator.TheVariants as binary
use Rattle.mql_syntax.specs.declared.kind.UnaryOperator.{UnaryOperator}
use Rattle.mql_syntax.specs.declared.kind.UnaryOperator.TheVariants as unary
use Rattle.mql_syntax.specs.declared.value.Operation.{Operation}
use Rattle.mql_syntax.specs.declared.value.Operation.TheVariants as operation
use Rattle.mql_syntax.specs.declared.value.TypeUse.{TypeUse}
use Rattle.mql_names.specs.Types.{type_sort, named_sort}
use Rattle.mql_names.specs.declared.types.Sort.{Sort}
use Rattle.mql_names.specs.declared.types.Sort.TheVariants as sort
use Rattle.mql_types.specs.declared.types.Base.{Base}
use Rattle.mql_types.specs.declared.types.Base.TheVariants as base
use Rattle.mql_types.specs.declared.types.DataType.{DataType}
use Rattle.mql_types.specs.declared.overloads.Argument.{Argument}
use Rattle.mql_types.specs.declared.overloads.Parameter.{Parameter}
use Rattle.mql_types.specs.declared.overloads.Signature.{Signature}
use Rattle.mql_types.specs.Types.{is_array, sort_base}
use Rattle.mql_types.specs.Conversions.{is_number, is_null, fits}
use Rattle.mql_types.specs.Operators.{binary_sort, result_base, no_numbers, bits_of_double, compares_structures, is_double, branches}
use Rattle.mql_types.specs.Overloads.{choose}
use Rattle.mql_scope.specs.declared.context.Field.{Field}
use Rattle.mql_scope.specs.declared.context.Layout.{Layout}
use Rattle.mql_typed.specs.declared.info.Info.{Info}
use Rattle.mql_scope.specs.Contexts.{Text, Program, Context, either, written}
use Rattle.mql_scope.specs.declared.names.Callee.{Callee}
use Rattle.mql_scope.specs.declared.names.Callee.TheVariants.{Functions, Conversion, Supplied, Other, Unknown}
use Rattle.mql_scope.specs.Names.{name_info, callee}
use Rattle.mql_typed.specs.Typed.{value_base}
use Rattle.mql_typed.specs.Operations.{on, int_operator}
use Rattle.mql_calls.specs.Nodes.{Node, Rule, passes, nth, ask, some_part, is_void, is_whole_array, no_place, is_constant, is_of_input, told, arguments_of}
use Rattle.mql_arguments.specs.declared.rules.ArgumentRule.{ArgumentRule}
use Rattle.mql_arguments.specs.declared.rules.ArgumentRule.TheVariants as argument
use Rattle.mql_arguments.specs.Arguments.{chosen_in, is_nothing, is_equal, some_pair, breaks}
use Rattle.mql_calls.specs.NativeCalls.{wrong_arguments, lends_native, flags_no_line}
use Rattle.mql_expressions.specs.declared.handed.Handed.{Handed}

-- the type of a part's value; tests of those of one part and of the first two
abbrev pub base_at : ℕ → Node → Option Base
base_at k n = on (nth k n.parts) value_base

abbrev pub ask_base : ℕ → (Base → Bool) → Node → Bool
ask_base k test n = passes test (base_at k n)

abbrev pub ask_bases : (Base → Base → Bool) → Node → Bool
ask_bases test n = passes (λ a. ask_base 1 (test a) n) (base_at 0 n)

-- the operator between two values at a node, that of an assignment included
abbrev pub operator_of : Operation → Option IntOperator
operator_of (operation.Binary o) = int_operator o
operator_of (operation.AssignWith o) = int_operator o
operator_of _ = None

-- a place is changed: `=`, `+=` and the like, `++`, `--`
abbrev pub changes : Operation → Bool
changes operation.Assign = true
changes (operation.AssignWith o) = true
changes (operation.Unary unary.Increment) = true
changes (operation.Unary unary.Decrement) = true
changes (operation.Postfix s) = true
changes _ = false

-- an operator on one number
abbrev pub on_number : Operation → Bool
on_number (operation.Unary unary.Complement) = true
on_number (operation.Unary unary.Minus) = true
on_number (operation.Unary unary.Plus) = true
on_number (operation.Unary unary.Increment) = true
on_number (operation.Unary unary.Decrement) = true
on_number (operation.Postfix s) = true
on_number _ = false

-- what a node calls
unfoldable pub callee_of : Context → Node → Option Callee
callee_of c n = option_map (callee c n.place) n.called

abbrev pub is_unknown : Callee → Bool
is_unknown Unknown = true
is_unknown _ = false

abbrev pub is_other : Callee → Bool
is_other Other = true
is_other _ = false

abbrev pub is_functions : Callee → Bool
is_functions Functions = true
is_functions _ = false

-- a call of the program's functions whose arguments all tell something: the arguments, and what is chosen
abbrev pub handed : Text → List Signature → List Argument → Handed
handed x fs given = record { arguments = given; choice = choose x given fs }

abbrev pub handed_to : List Signature → Option Text → Option (List Argument) → Option Handed
handed_to fs (Some x) (Some given) = Some (handed x fs given)
handed_to fs _ _ = None

unfoldable pub handed_at : Context → Node → Option Handed
handed_at c n =
    if passes is_functions (callee_of c n) then handed_to c.program.functions n.called (arguments_of n)
    else None

-- the chosen function has a parameter at which an argument breaks a rule
abbrev pub chosen_for : List Signature → Handed → Option Signature
chosen_for fs h = chosen_in fs h.choice

abbrev pub breaks_at : ArgumentRule → List Signature → Handed → Bool
breaks_at rule fs h =
    passes (λ (f : Signature). some_pair (breaks rule) h.arguments f.parameters) (chosen_for fs h)

abbrev pub ask_pairs : ArgumentRule → Rule
ask_pairs rule c n = passes (breaks_at rule c.program.functions) (handed_at c n)

-- a call of a native function, with its arguments
abbrev pub ask_supplied : (Native → List Info → Bool) → Option (List Info) → Callee → Bool
ask_supplied test is (Supplied f) = passes (test f) is
ask_supplied test is _ = false

abbrev pub ask_native : (Native → List Info → Bool) → Rule
ask_native test c n = passes (ask_supplied test (told n.parts)) (callee_of c n)

-- a call of a type
abbrev pub converts_to : Callee → Option Base
converts_to (Conversion b) = Some b
converts_to _ = None

abbrev pub called_base : Context → Node → Option Base
called_base c n = on (callee_of c n) converts_to

abbrev pub is_one : {A : Type 0} → List A → Bool
is_one (x ∷ []) = true
is_one _ = false

-- the type that a cast names
abbrev pub cast_base : Context → List TypeUse → Option Base
cast_base c [] = None
cast_base c (t ∷ ts) = written c.program t

-- the field of a name that values of a type have, the last one: what a structure declares itself stands
-- behind what it has of its parent, and hides it
abbrev pub field_in : List Field → Text → ℕ → Option (ℕ × Field)
field_in [] x n = None
field_in (f ∷ fs) x n = either (field_in fs x (n + 1)) (if bytes_eq f.name x then Some (n, f) else None)

abbrev pub fields_at : Option Layout → List Field
fields_at None = []
fields_at (Some l) = l.fields

abbrev pub field_of : Program → Base → Text → Option (ℕ × Field)
field_of p (base.Structure n) x = field_in (fields_at (slice_get p.structures n)) x 0
field_of p _ x = None

abbrev pub field_at : Program → Info → Text → Option (ℕ × Field)
field_at p i x = on (value_base i) (λ b. field_of p b x)

abbrev pub is_type : Sort → Bool
is_type sort.Unknown = false
is_type _ = true

abbrev pub names_type : Context → Text → Bool
names_type c x = is_type (named_sort c.program.names x)

-- 1 an unknown name; there are no templates and no names of classes yet
abbrev pub unknown_at : Operation → Rule
unknown_at (operation.Name x) c n = is_none (name_info c n.place x)
unknown_at operation.Call c n = passes is_unknown (callee_of c n)
unknown_at (operation.Generic x) c n = true
unknown_at (operation.Scope class x) c n = not (names_type c class)
unknown_at _ c n = false

abbrev pub unknown_name : Rule
unknown_name c n = unknown_at n.what c n

-- 2 an unknown member; structures have no static ones yet
abbrev pub lacks : Program → Text → Info → Bool
lacks p x i = is_some i.of && is_none (field_at p i x)

abbrev pub unknown_member_at : Operation → Rule
unknown_member_at (operation.Member x) c n = ask 0 (lacks c.program x) n
unknown_member_at (operation.Scope class x) c n = names_type c class
unknown_member_at _ c n = false

abbrev pub unknown_member : Rule
unknown_member c n = unknown_member_at n.what c n

-- 3 a member that is not accessible: structures have no methods yet in which one would be
abbrev pub is_closed : ℕ × Field → Bool
is_closed f = not f.1.accessible

abbrev pub hides : Program → Text → Info → Bool
hides p x i = passes is_closed (field_at p i x)

abbrev pub not_accessible_at : Operation → Rule
not_accessible_at (operation.Member x) c n = ask 0 (hides c.program x) n
not_accessible_at _ c n = false

abbrev pub not_accessible : Rule
not_accessible c n = not_accessible_at n.what c n

-- 4 what is called is no function
abbrev pub is_call : Operation → Bool
is_call operation.Call = true
is_call _ = false

abbrev pub not_callable : Rule
not_callable c n = is_call n.what && (is_none n.called || passes is_other (callee_of c n))

-- 5 no overload takes the arguments; a type that is called takes one
abbrev pub none_takes : Handed → Bool
none_takes h = is_nothing h.choice

abbrev pub no_overload : Rule
no_overload c n = passes none_takes (handed_at c n) || (is_some (called_base c n) && not (is_one n.parts))

-- 6 two overloads fit equally
abbrev pub takes_equally : Handed → Bool
takes_equally h = is_equal h.choice

abbrev pub fit_equally : Rule
fit_equally c n = passes takes_equally (handed_at c n)

-- 7 wrong arguments of a native function
abbrev pub wrong_native : Rule
wrong_native c n = ask_native wrong_arguments c n

-- 8 a reference argument is no place
abbrev pub reference_no_place : Rule
reference_no_place c n = ask_pairs argument.NotPlaced c n

-- 9 its type differs
abbrev pub reference_differs : Rule
reference_differs c n = ask_pairs argument.Differs c n

-- 10 a constant is changed or lent for change
abbrev pub constant_changed : Rule
constant_changed c n =
    (changes n.what && ask 0 is_constant n)
    || (ask_pairs argument.LendsConstant c n || ask_native lends_native c n)

-- 11 an input is assigned
abbrev pub input_changed : Rule
input_changed c n = changes n.what && ask 0 is_of_input n

-- 12 the left side is no place
abbrev pub left_no_place : Rule
left_no_place c n = changes n.what && ask 0 no_place n

-- 13 no conversion
abbrev pub no_fit : Base → Base → Bool
no_fit b a = not (fits a b)

abbrev pub no_update : Option IntOperator → Base → Base → Bool
no_update None a b = false
no_update (Some o) a b = passes (λ s. not (fits (result_base o s) a)) (binary_sort o a b)

abbrev pub fits_not_in : Node → Option Base → Bool
fits_not_in n to = passes (λ b. ask_base 0 (no_fit b) n) to

abbrev pub no_cast : Option Base → Node → Bool
no_cast to n = is_none to || fits_not_in n to

abbrev pub no_conversion_at : Operation → Rule
no_conversion_at operation.Assign c n = ask_bases no_fit n
no_conversion_at (operation.AssignWith o) c n = ask_bases (no_update (int_operator o)) n
no_conversion_at operation.Conversion c n = no_cast (cast_base c n.types) n
no_conversion_at operation.Cast c n = no_cast (cast_base c n.types) n
no_conversion_at operation.Call c n = fits_not_in n (called_base c n)
no_conversion_at _ c n = false

abbrev pub no_conversion : Rule
no_conversion c n = no_conversion_at n.what c n

-- 14 an operand is no number
abbrev pub is_no_number : Base → Bool
is_no_number a = not (is_number a)

abbrev pub no_number : Rule
no_number c n =
    (on_number n.what && ask_base 0 is_no_number n)
    || passes (λ o. ask_bases (no_numbers o) n) (operator_of n.what)

-- 15 `%`, a shift or an operator on bits, on a `double`
abbrev pub is_complement : Operation → Bool
is_complement (operation.Unary unary.Complement) = true
is_complement _ = false

abbrev pub double_bits : Rule
double_bits c n =
    (is_complement n.what && ask_base 0 is_double n)
    || passes (λ o. ask_bases (bits_of_double o) n) (operator_of n.what)

-- 16 arrays or structures are compared
abbrev pub array_compared : IntOperator → Node → Bool
array_compared o n =
    compares_structures o (base.Structure 0) (base.Structure 0) && some_part is_whole_array n.parts

abbrev pub structures_compared : Rule
structures_compared c n =
    passes (λ o. array_compared o n || ask_bases (compares_structures o) n) (operator_of n.what)

-- 17 a condition is no number
abbrev pub no_condition : Info → Bool
no_condition i = passes is_no_number (value_base i)

abbrev pub no_condition_at : Operation → Rule
no_condition_at operation.Conditional c n = ask_base 0 is_no_number n
no_condition_at (operation.Binary binary.And) c n = some_part no_condition n.parts
no_condition_at (operation.Binary binary.Or) c n = some_part no_condition n.parts
no_condition_at (operation.Unary unary.Not) c n = ask_base 0 is_no_number n
no_condition_at _ c n = false

abbrev pub condition_no_number : Rule
condition_no_number c n = no_condition_at n.what c n

-- 23 what gives nothing is used as a value
abbrev pub void_used : Rule
void_used c n = some_part is_void n.parts

-- 24 an index on no array
abbrev pub is_index : Operation → Bool
is_index operation.Index = true
is_index _ = false

abbrev pub index_no_array : Rule
index_no_array c n = is_index n.what && is_some (base_at 0 n)

-- 25 an index is no integer
abbrev pub no_integer : Base → Bool
no_integer a = is_no_number a || is_double a

abbrev pub index_no_integer : Rule
index_no_integer c n = is_index n.what && ask_base 1 no_integer n

-- 26 a whole array is used as a value: no part may be one but what is indexed, what stands in parentheses,
-- whose member is asked for, and arguments, of which the chosen function decides
abbrev pub takes_arrays : Operation → Bool
takes_arrays operation.Parentheses = true
takes_arrays operation.Call = true
takes_arrays (operation.Member x) = true
takes_arrays operation.Index = true
takes_arrays _ = false

abbrev pub array_used : Rule
array_used c n =
    (not (takes_arrays n.what) && some_part is_whole_array n.parts)
    || ((is_index n.what && ask 1 is_whole_array n)
    || ((is_some (called_base c n) && some_part is_whole_array n.parts) || ask_pairs argument.WholeArray c n))

-- 27 `new` of no class: there are none yet
abbrev pub is_new : Operation → Bool
is_new operation.New = true
is_new _ = false

abbrev pub new_of_no_class : Rule
new_of_no_class c n = is_new n.what

-- 29 pointer types that are not related: there are no pointers yet
abbrev pub on_pointer : Operation → Bool
on_pointer operation.DynamicCast = true
on_pointer (operation.Unary unary.Address) = true
on_pointer (operation.Unary unary.Object) = true
on_pointer _ = false

abbrev pub unrelated_pointers : Rule
unrelated_pointers c n = on_pointer n.what

-- 30 `this` outside a method: there are none yet
abbrev pub is_this : Operation → Bool
is_this operation.This = true
is_this _ = false

abbrev pub this_outside : Rule
this_outside c n = is_this n.what

-- 35 values in braces that begin no variable
abbrev pub is_braces : Operation → Bool
is_braces operation.Braces = true
is_braces _ = false

abbrev pub braces_alone : Rule
braces_alone c n = is_braces n.what

-- 38 a series flag on an array that is not dynamic with one dimension
abbrev pub series_flag : Rule
series_flag c n = ask_native flags_no_line c n

-- 39 branches of `?:` have no common type
abbrev pub is_conditional : Operation → Bool
is_conditional operation.Conditional = true
is_conditional _ = false

abbrev pub no_common : Base → Base → Bool
no_common a b = is_none (branches a b)

abbrev pub branches_differ : Rule
branches_differ c n =
    is_conditional n.what && passes (λ a. ask_base 2 (no_common a) n) (base_at 1 n)

-- a rule with its number
pub record Numbered : Type 0 where
  pub number : ℕ
  pub test : Rule

abbrev pub rule : ℕ → Rule → Numbered
rule k r = record { number = k; test = r }

-- all rules that expressions break: of names and members, of calls, of places and operands, of values, and
-- of what is not built
abbrev pub name_rules : List Numbered
name_rules = rule 1 unknown_name ∷ rule 2 unknown_member ∷ rule 3 not_accessible ∷ []

abbrev pub call_rules : List Numbered
call_rules =
    rule 4 not_callable ∷ rule 5 no_overload ∷ rule 6 fit_equally ∷ rule 7 wrong_native ∷
    rule 8 reference_no_place ∷ rule 9 reference_differs ∷ rule 10 constant_changed ∷ []

abbrev pub operand_rules : List Numbered
operand_rules =
    rule 11 input_changed ∷ rule 12 left_no_place ∷ rule 13 no_conversion ∷ rule 14 no_number ∷
    rule 15 double_bits ∷ rule 16 structures_compared ∷ rule 17 condition_no_number ∷ []

abbrev pub value_rules : List Numbered
value_rules =
    rule 23 void_used ∷ rule 24 index_no_array ∷ rule 25 index_no_integer ∷ rule 26 array_used ∷ []

abbrev pub other_rules : List Numbered
other_rules =
    rule 27 new_of_no_class ∷ rule 29 unrelated_pointers ∷ rule 30 this_outside ∷ rule 35 braces_alone ∷
    rule 38 series_flag ∷ rule 39 branches_differ ∷ []

abbrev pub rules : List Numbered
rules = name_rules ++ (call_rules ++ (operand_rules ++ (value_rules ++ other_rules)))

-- the lowest rule that a node breaks
abbrev pub lowest_in : List Numbered → Context → Node → Option ℕ
lowest_in [] c n = None
lowest_in (r ∷ rs) c n = if r.test c n then Some r.number else lowest_in rs c n

unfoldable pub lowest : Context → Node → Option ℕ
lowest c n = lowest_in rules c n
