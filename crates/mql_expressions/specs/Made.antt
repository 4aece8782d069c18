-- What an expression that breaks no rule tells, with its typed expression, one line a form (MQL5 Reference,
-- Language Basics, Operations and Expressions).
use Rattle.std.specs.Prelude.{ℕ, ◌+◌, pos, List, [], ◌∷◌, length, Option, Some, None, option_map, if◌then◌else◌}
use Rattle.fx8.specs.declared.int_kind.IntKind.TheVariants as kind
use Rattle.natives.specs.declared.types.SimpleType.TheVariants as simple
use Rattle.mql_mean.specs.declared.value.Value.TheVariants as value
use Rattle.mql_syntax.specs.declared.value.TypeUse.{TypeUse}
use Rattle.mql_syntax.specs.declared.value.Operation.{Operation}
use Rattle.mql_syntax.specs.declared.value.Operation.TheVariants as operation
use Rattle.mql_types.specs.declared.types.Base.{Base}
use Rattle.mql_types.specs.declared.types.Base.TheVariants as base
use Rattle.mql_types.specs.declared.overloads.Signature.{Signature}
use Rattle.mql_types.specs.Operators.{bool}
use Rattle.mql_scope.specs.declared.context.Field.{Field}
use Rattle.mql_typed.specs.declared.info.Info.{Info}
use Rattle.mql_typed.specs.Typed.{is_place}
use Rattle.mql_typed.specs.Operations.{on, literal, truth, unary_info, postfix_info, binary_info, conditional_info, assign_info, update_info, index_info, kept_field, placed_field, cast_info}
use Rattle.mql_scope.specs.Contexts.{Text, Program, Context}
use Rattle.mql_scope.specs.declared.names.Callee.{Callee}
use Rattle.mql_scope.specs.declared.names.Callee.TheVariants.{Functions, Conversion, Supplied, Other, Unknown}
use Rattle.mql_scope.specs.Names.{name_info}
use Rattle.mql_calls.specs.Nodes.{Node, nth, told}
use Rattle.mql_calls.specs.Calls.{call_info}
use Rattle.mql_calls.specs.NativeCalls.{native_info}
use Rattle.mql_expressions.specs.Rules.{callee_of, handed_at, chosen_for, cast_base, field_at, lowest}

-- a field of a place; that of a structure that is none, which is kept in the next local first
abbrev pub kept_part : Context → Info → ℕ × Field → Option Info
kept_part c i f = option_map (λ whole. kept_field (c.next + length i.kept) f.0 whole f.1.of i) i.of

abbrev pub field_info : Context → Info → ℕ × Field → Option Info
field_info c i f = if is_place i.standing then Some (placed_field f.0 f.1.of i) else kept_part c i f

abbrev pub member_info : Context → Text → Info → Option Info
member_info c x i = on (field_at c.program i x) (field_info c i)

-- calls: the function of the program that a node calls, where its arguments choose one
abbrev pub chosen_at : Context → Node → Option Signature
chosen_at c n = on (handed_at c n) (chosen_for c.program.functions)

abbrev pub one_cast : Base → List Info → Option Info
one_cast b (i ∷ []) = cast_info (Some b) i
one_cast b _ = None

abbrev pub called_function : Program → List Info → Option Signature → Option Info
called_function p is f = option_map (λ g. call_info p g is) f

abbrev pub called_info : Program → Option Signature → List Info → Callee → Option Info
called_info p f is Functions = called_function p is f
called_info p f is (Conversion b) = one_cast b is
called_info p f is (Supplied g) = Some (native_info p g is)
called_info p f is Other = None
called_info p f is Unknown = None

abbrev pub call_of : Context → Node → Option Info
call_of c n =
    on (callee_of c n) (λ k. on (told n.parts) (λ is. called_info c.program (chosen_at c n) is k))

-- forms of one part, of two and of three
abbrev pub of_one : Operation → Context → List TypeUse → Info → Option Info
of_one operation.Parentheses c types i = Some i
of_one (operation.Unary o) c types i = unary_info o i
of_one (operation.Postfix s) c types i = postfix_info s i
of_one (operation.Member x) c types i = member_info c x i
of_one operation.Conversion c types i = cast_info (cast_base c types) i
of_one operation.Cast c types i = cast_info (cast_base c types) i
of_one _ c types i = None

abbrev pub of_two : Operation → Info → Info → Option Info
of_two (operation.Binary o) i j = binary_info o i j
of_two operation.Assign i j = assign_info i j
of_two (operation.AssignWith o) i j = update_info o i j
of_two operation.Index i j = index_info i j
of_two _ i j = None

abbrev pub one : Operation → Context → Node → Option Info
one what c n = on (nth 0 n.parts) (of_one what c n.types)

abbrev pub two : Operation → Node → Option Info
two what n = on (nth 0 n.parts) (λ i. on (nth 1 n.parts) (of_two what i))

abbrev pub three : Node → Option Info
three n = on (nth 0 n.parts) (λ i. on (nth 1 n.parts) (λ j. on (nth 2 n.parts) (conditional_info i j)))

-- what a node tells that breaks no rule
unfoldable pub made_at : Operation → Context → Node → Option Info
made_at (operation.Name x) c n = name_info c n.place x
made_at (operation.Int x k) c n = literal (base.Simple (simple.Integer k)) (value.Num k (pos x))
made_at (operation.Double x) c n = literal (base.Simple simple.Double) (value.Dbl x)
made_at (operation.Text t) c n = literal (base.Simple simple.String) (value.Str t)
made_at (operation.Bool b) c n = literal bool (value.Num kind.Bool (truth b))
made_at operation.Null c n = literal base.Null (value.Ptr 0)
made_at operation.Call c n = call_of c n
made_at operation.Conditional c n = three n
made_at (operation.Binary o) c n = two (operation.Binary o) n
made_at operation.Assign c n = two operation.Assign n
made_at (operation.AssignWith o) c n = two (operation.AssignWith o) n
made_at operation.Index c n = two operation.Index n
made_at operation.Parentheses c n = one operation.Parentheses c n
made_at (operation.Unary o) c n = one (operation.Unary o) c n
made_at (operation.Postfix s) c n = one (operation.Postfix s) c n
made_at (operation.Member x) c n = one (operation.Member x) c n
made_at operation.Conversion c n = one operation.Conversion c n
made_at operation.Cast c n = one operation.Cast c n
made_at _ c n = None

-- what a node tells
abbrev pub judged : Option ℕ → Context → Node → Option Info
judged (Some rule) c n = None
judged None c n = made_at n.what c n

unfoldable pub tells : Context → Node → Option Info
tells c n = judged (lowest c n) c n

-- the number of that function
abbrev pub number_in : Option Signature → List ℕ
number_in None = []
number_in (Some f) = f.number ∷ []

unfoldable pub uses : Context → Node → List ℕ
uses c n = number_in (chosen_at c n)
