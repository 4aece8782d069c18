-- Constants (MQL5 Reference, Language Basics, Data Types; Typecasting; Operations and Expressions): a number, a
-- literal text, `NULL`, and what parentheses, `+`, comparisons, `?:` and conversions make of texts and other
-- constants. Each part of a constant is one. An operator on numbers takes numbers that no text is a part of.
use Rattle.std.specs.Prelude.{ℕ, ℤ, pos, Bool, true, false, not, ◌||◌, List, [], ◌∷◌, ◌++◌, map, Option, Some, None, option_map, if◌then◌else◌}
use Rattle.fx8.specs.declared.int_kind.IntKind.TheVariants as kind
use Rattle.fx8.specs.declared.int_operator.IntOperator.{IntOperator}
use Rattle.fx8.specs.declared.int_operator.IntOperator.TheVariants as op
use Rattle.fx8.specs.Integers.{truth, is_zero}
use Rattle.fx8.specs.Doubles.{whole_of}
use Rattle.natives.specs.declared.types.ConstantValue.{ConstantValue}
use Rattle.natives.specs.declared.types.ConstantValue.TheVariants.{Integer, Double}
use Rattle.natives.specs.declared.types.SimpleType.{SimpleType}
use Rattle.mql_mean.specs.declared.value.Value.{Value, out-Value}
use Rattle.mql_mean.specs.declared.value.Value.TheVariants as value
use Rattle.mql_mean.specs.declared.value.Value.TheOpen.{Value-F}
use Rattle.mql_meaning.specs.Changes.{then_some}
use Rattle.mql_meaning.specs.Operators.{compared, order}
use Rattle.mql_meaning.specs.Texts.{text_of_value}
use Rattle.mql_syntax.specs.declared.kind.BinaryOperator.{BinaryOperator}
use Rattle.mql_syntax.specs.declared.value.Operation.{Operation}
use Rattle.mql_syntax.specs.declared.value.Operation.TheVariants as operation
use Rattle.mql_syntax.specs.declared.value.TypeUse.{TypeUse}
use Rattle.mql_syntax.specs.declared.value.Value as syntax
use Rattle.mql_syntax.specs.declared.value.Value.{Node', Row_of-Value, end_of-Value, more_of-Value}
use Rattle.mql_constants.specs.Constants as number
use Rattle.mql_types.specs.declared.types.Base.{Base}
use Rattle.mql_types.specs.declared.types.Base.TheVariants as base
use Rattle.mql_types.specs.Types.{sort_of}
use Rattle.mql_typed.specs.Operations.{int_operator}
use Rattle.mql_scope.specs.Contexts.{either}
use Rattle.native_conversions.specs.Conversions.{converted, a_string}

-- a constant taken into a type, where it has a value there: an enumeration is an `int`, a structure has none
unfoldable pub as_type : Base → Value → Option Value
as_type b v = then_some (sort_of b) (λ t. converted t v)

-- a number as a value
abbrev pub number_value : ConstantValue → Value
number_value (Integer k x) = value.Num k x
number_value (Double x) = value.Dbl x

abbrev pub is_text_at : Value-F Value → Bool
is_text_at (Value-F.Str s) = true
is_text_at _ = false

abbrev pub is_text : Value → Bool
is_text v = is_text_at (out-Value v)

abbrev pub pair : {A B : Type 0} → Option A → Option B → Option (A × B)
pair (Some a) (Some b) = Some (a, b)
pair (Some a) None = None
pair None b = None

-- beside a text another constant becomes one, `NULL` the empty one
abbrev pub texts : Value → Value → Option (List ℕ × List ℕ)
texts a b = if is_text a || is_text b then pair (text_of_value a) (text_of_value b) else None

abbrev pub bool : Bool → Value
bool b = value.Num kind.Bool (truth b)

-- an operator on texts: they are joined, or compared by units
abbrev pub on_texts : IntOperator → List ℕ → List ℕ → Option Value
on_texts op.Add s t = a_string (s ++ t)
on_texts o s t = option_map bool (compared o (order s t) (pos 0))

unfoldable pub joined : BinaryOperator → Value → Value → Option Value
joined o a b = then_some (int_operator o) (λ p. then_some (texts a b) (λ st. on_texts p st.0 st.1))

-- a condition: a number, which holds where its whole number is not 0
abbrev pub condition_at : Value-F Value → Option Bool
condition_at (Value-F.Num k x) = Some (not (is_zero x))
condition_at (Value-F.Dbl x) = Some (not (is_zero (whole_of x)))
condition_at _ = None

abbrev pub condition : Value → Option Bool
condition v = condition_at (out-Value v)

-- `t ? a : b`, where a or b is a text
unfoldable pub chosen : Value → Value → Value → Option Value
chosen t a b =
    then_some (condition t) (λ h. then_some (texts a b) (λ st. a_string (if h then st.0 else st.1)))

-- the constants that parts are, where there are so many and each is one
abbrev pub Parts : Type 0
Parts = List (Option Value)

abbrev pub one : Parts → Option Value
one (Some a ∷ []) = Some a
one _ = None

abbrev pub two : Parts → Option (Value × Value)
two (Some a ∷ Some b ∷ []) = Some (a, b)
two _ = None

abbrev pub three : Parts → Option (Value × Value × Value)
three (Some a ∷ Some b ∷ Some c ∷ []) = Some (a, b, c)
three _ = None

-- a constant taken into the type that is written
abbrev pub taken : (TypeUse → Option SimpleType) → List TypeUse → Parts → Option Value
taken simple ts vs =
    then_some (number.the_type simple ts) (λ t. then_some (one vs) (as_type (base.Simple t)))

-- what a value that is no constant number makes of constants
unfoldable pub made : (TypeUse → Option SimpleType) → Operation → List TypeUse → Parts → Option Value
made simple (operation.Text s) ts vs = a_string s
made simple operation.Null ts vs = Some (value.Ptr 0)
made simple operation.Parentheses ts vs = one vs
made simple (operation.Binary o) ts vs = then_some (two vs) (λ p. joined o p.0 p.1)
made simple operation.Conditional ts vs = then_some (three vs) (λ p. chosen p.0 p.1 p.2)
made simple operation.Conversion ts vs = taken simple ts vs
made simple operation.Cast ts vs = taken simple ts vs
made simple _ ts vs = None

-- the constant that a value is, if it is one, where it is said which number a name is and which simple type a
-- type is
abbrev mutual
  pub constant_of :
      (List ℕ → Option ConstantValue) → (TypeUse → Option SimpleType) → syntax.Value → Option Value
  constant_of numbers simple (Node' place what ts m row) =
      either (option_map number_value (number.constant_of numbers simple (Node' place what ts m row)))
      (made simple what ts (constants_row numbers simple row))

  pub constants_row :
      (List ℕ → Option ConstantValue) → (TypeUse → Option SimpleType) → {m : _} → Row_of-Value m → Parts
  constants_row numbers simple end_of-Value = []
  constants_row numbers simple (more_of-Value v vs) =
      constant_of numbers simple v ∷ constants_row numbers simple vs
