-- What operations on expressions give, with their typed expressions, one definition an operation (MQL5 Reference,
-- Language Basics, Operations and Expressions).
use Rattle.std.specs.Prelude.{ℕ, ℤ, pos, Bool, true, false, List, [], ◌∷◌, ◌++◌, Option, Some, None, option_map, if◌then◌else◌}
use Rattle.fx8.specs.declared.int_kind.IntKind.TheVariants as kind
use Rattle.fx8.specs.declared.int_operator.IntOperator.{IntOperator}
use Rattle.fx8.specs.declared.int_operator.IntOperator.TheVariants as op
use Rattle.mql_mean.specs.declared.value.Value.{Value}
use Rattle.mql_mean.specs.declared.value.Value.TheVariants as value
use Rattle.mql_meaning.specs.declared.types.VarType.{VarType}
use Rattle.mql_meaning.specs.declared.types.Sort.{Sort}
use Rattle.mql_meaning.specs.declared.types.Sort.TheVariants as sort
use Rattle.mql_meaning.specs.declared.operator.Operator.TheVariants as operator
use Rattle.mql_meaning.specs.declared.operator.Bump.{Bump}
use Rattle.mql_meaning.specs.declared.operator.Bump.TheVariants as bump
use Rattle.mql_meaning.specs.declared.operator.UnaryOperator.TheVariants as unary_operator
use Rattle.mql_meaning.specs.declared.tree.Expression.{Expression}
use Rattle.mql_meaning.specs.declared.tree.Expression.TheVariants as expression
use Rattle.mql_syntax.specs.declared.kind.BinaryOperator.{BinaryOperator}
use Rattle.mql_syntax.specs.declared.kind.BinaryOperator.TheVariants as binary
use Rattle.mql_syntax.specs.declared.kind.UnaryOperator.{UnaryOperator}
use Rattle.mql_syntax.specs.declared.kind.UnaryOperator.TheVariants as unary
use Rattle.mql_syntax.specs.declared.kind.Step.{Step}
use Rattle.mql_syntax.specs.declared.kind.Step.TheVariants as step
use Rattle.mql_types.specs.declared.types.Base.{Base}
use Rattle.mql_types.specs.declared.types.DataType.{DataType}
use Rattle.mql_types.specs.Types.{element_dimensions, sort_base}
use Rattle.mql_types.specs.Operators.{bool, binary_sort, result_base, unary_sort, branches}
use Rattle.mql_typed.specs.declared.info.Info.{Info}
use Rattle.mql_typed.specs.declared.info.Standing.TheVariants as stand
use Rattle.mql_typed.specs.declared.binary.Parts.{Parts}
use Rattle.mql_typed.specs.Typed.{on_one, on_two, value_base, value_of, into_sort, converted, condition, var_type, a_value, a_place}

-- the operator of two numbers or strings that an operator is; `&&` and `||` are none
abbrev pub int_operator : BinaryOperator → Option IntOperator
int_operator binary.Multiply = Some op.Multiply
int_operator binary.Divide = Some op.Divide
int_operator binary.Remainder = Some op.Remainder
int_operator binary.Add = Some op.Add
int_operator binary.Subtract = Some op.Subtract
int_operator binary.ShiftLeft = Some op.ShiftLeft
int_operator binary.ShiftRight = Some op.ShiftRight
int_operator binary.Less = Some op.Less
int_operator binary.LessOrEqual = Some op.LessOrEqual
int_operator binary.Greater = Some op.Greater
int_operator binary.GreaterOrEqual = Some op.GreaterOrEqual
int_operator binary.Equal = Some op.Equal
int_operator binary.NotEqual = Some op.NotEqual
int_operator binary.BitAnd = Some op.BitAnd
int_operator binary.BitXor = Some op.BitXor
int_operator binary.BitOr = Some op.BitOr
int_operator binary.And = None
int_operator binary.Or = None

-- what follows from something that is there
abbrev pub on : {A B : Type 0} → Option A → (A → Option B) → Option B
on None f = None
on (Some a) f = f a

-- the type of the value that an expression gives
abbrev pub on_base : Info → (Base → Option Info) → Option Info
on_base i f = on (value_base i) f

-- literals
abbrev pub literal : Base → Value → Option Info
literal b v = Some (a_value b [] (expression.Constant v))

abbrev pub truth : Bool → ℤ
truth b = if b then pos 1 else pos 0

-- `!x`, and `-`, `~`, `+` in the sort of a number
abbrev pub not_info : Info → Info
not_info i =
    a_value bool i.kept (on_one (operator.Unary unary_operator.Not (sort.Number kind.Bool)) (condition i))

abbrev pub number_sort : Info → Option Sort
number_sort i = on (value_base i) unary_sort

abbrev pub in_sort : (Sort → Expression → Expression) → Info → Option Info
in_sort f i = option_map (λ s. a_value (sort_base s) i.kept (f s (into_sort s i))) (number_sort i)

abbrev pub minus : Sort → Expression → Expression
minus s e = on_one (operator.Unary unary_operator.Minus s) e

abbrev pub complement : Sort → Expression → Expression
complement s e = on_one (operator.Unary unary_operator.Complement s) e

abbrev pub plus : Sort → Expression → Expression
plus s e = e

-- `++` and `--` give a value of the place's type
abbrev pub bumped : Bump → Info → Option Info
bumped o i = on_base i (λ b. Some (a_value b i.kept (on_one (operator.Bump o) i.typed)))

abbrev pub unary_info : UnaryOperator → Info → Option Info
unary_info unary.Not i = Some (not_info i)
unary_info unary.Minus i = in_sort minus i
unary_info unary.Complement i = in_sort complement i
unary_info unary.Plus i = in_sort plus i
unary_info unary.Increment i = bumped bump.MoreFirst i
unary_info unary.Decrement i = bumped bump.LessFirst i
unary_info unary.Address i = None
unary_info unary.Object i = None

abbrev pub postfix_info : Step → Info → Option Info
postfix_info step.Increment i = bumped bump.MoreAfter i
postfix_info step.Decrement i = bumped bump.LessAfter i

abbrev pub a_truth : Bool → Expression
a_truth b = expression.Constant (value.Num kind.Bool (truth b))

-- the parts of a choice, with the locals that they take, one after another, and the choice
abbrev pub no_parts : Parts
no_parts = record { typed = []; kept = [] }

abbrev pub with_part : Parts → Expression → List VarType → Parts
with_part p e kept = record { typed = p.typed ++ e ∷ []; kept = p.kept ++ kept }

abbrev pub with_truth : Parts → Bool → Parts
with_truth p b = record { typed = p.typed ++ a_truth b ∷ []; kept = p.kept }

abbrev pub chosen : Base → Parts → Info
chosen b p = a_value b p.kept (expression.Choose p.typed)

-- `&&` and `||`: the second is looked at where the first does not decide
abbrev pub both : Info → Info → Info
both i j =
    a_value bool (i.kept ++ j.kept) (expression.Choose (condition i ∷ condition j ∷ a_truth false ∷ []))

abbrev pub either_of : Info → Info → Info
either_of i j =
    a_value bool (i.kept ++ j.kept) (expression.Choose (condition i ∷ a_truth true ∷ condition j ∷ []))

-- an operator of two values, in its sort
abbrev pub in_binary_sort : IntOperator → Info → Info → Sort → Info
in_binary_sort o i j s =
    a_value (result_base o s) (i.kept ++ j.kept)
    (on_two (operator.Binary o s) (into_sort s i) (into_sort s j))

abbrev pub sort_for : IntOperator → Info → Info → Option Sort
sort_for o i j = on (value_base i) (λ a. on (value_base j) (binary_sort o a))

abbrev pub by_operator : IntOperator → Info → Info → Option Info
by_operator o i j = option_map (in_binary_sort o i j) (sort_for o i j)

abbrev pub binary_info : BinaryOperator → Info → Info → Option Info
binary_info binary.And i j = Some (both i j)
binary_info binary.Or i j = Some (either_of i j)
binary_info o i j = on (int_operator o) (λ q. by_operator q i j)

-- `?:`: the branches are taken into their common type
abbrev pub choice : Info → Info → Info → Base → Info
choice test i j b =
    a_value b ((test.kept ++ i.kept) ++ j.kept)
    (expression.Choose (condition test ∷ converted b i ∷ converted b j ∷ []))

abbrev pub branch_base : Info → Info → Option Base
branch_base i j = on (value_base i) (λ a. on (value_base j) (branches a))

abbrev pub conditional_info : Info → Info → Info → Option Info
conditional_info test i j = option_map (choice test i j) (branch_base i j)

-- assignments: the right side first; the value is of the place's type
abbrev pub assigned : Info → Info → Base → Info
assigned i j b = a_value b (i.kept ++ j.kept) (on_two operator.Keep (converted b j) i.typed)

abbrev pub assign_info : Info → Info → Option Info
assign_info i j = option_map (assigned i j) (value_base i)

abbrev pub updated : IntOperator → Info → Info → Base → Sort → Info
updated o i j b s = a_value b (i.kept ++ j.kept) (on_two (operator.Update o s) (into_sort s j) i.typed)

abbrev pub update_by : IntOperator → Info → Info → Option Info
update_by o i j = on_base i (λ b. option_map (updated o i j b) (sort_for o i j))

abbrev pub update_info : BinaryOperator → Info → Info → Option Info
update_info o i j = on (int_operator o) (λ q. update_by q i j)

-- an element of an array; it is constant where the array is
abbrev pub element_type : DataType → DataType
element_type t = record { base = t.base; dimensions = element_dimensions t.dimensions }

abbrev pub element_at : Info → Info → DataType → Info
element_at i j t =
    a_place (element_type t) i.standing (i.kept ++ j.kept) (on_two operator.Index i.typed (value_of j))

abbrev pub index_info : Info → Info → Option Info
index_info i j = option_map (element_at i j) i.of

-- a field; a structure that is no place is kept in a local of its own first
abbrev pub local : ℕ → Expression
local n = expression.Apply (operator.Local n) []

abbrev pub field_of_local : ℕ → ℕ → Expression → Expression
field_of_local l n e =
    expression.After (on_two operator.Keep e (local l) ∷ []) (on_one (operator.Field n) (local l) ∷ [])

abbrev pub kept_field : ℕ → ℕ → DataType → DataType → Info → Info
kept_field l n whole t i =
    a_place t stand.Kept (i.kept ++ var_type whole ∷ []) (field_of_local l n i.typed)

abbrev pub placed_field : ℕ → DataType → Info → Info
placed_field n t i = a_place t i.standing i.kept (on_one (operator.Field n) i.typed)

-- a value taken into a type
abbrev pub cast_to : Info → Base → Info
cast_to i b = a_value b i.kept (converted b i)

abbrev pub cast_info : Option Base → Info → Option Info
cast_info b i = option_map (cast_to i) b
