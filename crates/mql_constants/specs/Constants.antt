-- Constants (MQL5 Reference, Language Basics: Data Types; Operations and Expressions): literals, names of
-- constants, and what operators, conversions and parentheses make of constants. Each part of a constant is
-- one.
use Rattle.std.specs.Prelude.{ℕ, pos, Bool, not, ◌&&◌, ◌||◌, List, [], ◌∷◌, Option, Some, None}
use Rattle.fx8.specs.declared.int_operator.IntOperator.TheVariants as op
use Rattle.natives.specs.declared.types.ConstantValue.{ConstantValue}
use Rattle.natives.specs.declared.types.ConstantValue.TheVariants.{Integer, Double}
use Rattle.natives.specs.declared.types.SimpleType.{SimpleType}
use Rattle.mql_syntax.specs.declared.kind.BinaryOperator.{BinaryOperator}
use Rattle.mql_syntax.specs.declared.kind.BinaryOperator.TheVariants as between
use Rattle.mql_syntax.specs.declared.kind.UnaryOperator.{UnaryOperator}
use Rattle.mql_syntax.specs.declared.kind.UnaryOperator.TheVariants as before
use Rattle.mql_syntax.specs.declared.value.Operation.{Operation}
use Rattle.mql_syntax.specs.declared.value.Operation.TheVariants as operation
use Rattle.mql_syntax.specs.declared.value.TypeUse.{TypeUse}
use Rattle.mql_syntax.specs.declared.value.Value.{Value, Node', Row_of-Value, end_of-Value, more_of-Value}
use Rattle.mql_constants.specs.Numbers.{bool, holds, converted, binary, negative, complement, same_number, chosen}

abbrev pub given : {A B : Type 0} → Option A → (A → Option B) → Option B
given None f = None
given (Some a) f = f a

-- an operator before a number
unfoldable pub changed : UnaryOperator → ConstantValue → Option ConstantValue
changed before.Minus a = negative a
changed before.Plus a = Some (same_number a)
changed before.Complement a = complement a
changed before.Not a = Some (bool (not (holds a)))
changed _ a = None

-- an operator between two numbers
unfoldable pub joined : BinaryOperator → ConstantValue → ConstantValue → Option ConstantValue
joined between.Multiply a b = binary op.Multiply a b
joined between.Divide a b = binary op.Divide a b
joined between.Remainder a b = binary op.Remainder a b
joined between.Add a b = binary op.Add a b
joined between.Subtract a b = binary op.Subtract a b
joined between.ShiftLeft a b = binary op.ShiftLeft a b
joined between.ShiftRight a b = binary op.ShiftRight a b
joined between.Less a b = binary op.Less a b
joined between.LessOrEqual a b = binary op.LessOrEqual a b
joined between.Greater a b = binary op.Greater a b
joined between.GreaterOrEqual a b = binary op.GreaterOrEqual a b
joined between.Equal a b = binary op.Equal a b
joined between.NotEqual a b = binary op.NotEqual a b
joined between.BitAnd a b = binary op.BitAnd a b
joined between.BitXor a b = binary op.BitXor a b
joined between.BitOr a b = binary op.BitOr a b
joined between.And a b = Some (bool (holds a && holds b))
joined between.Or a b = Some (bool (holds a || holds b))

-- the constants that parts are, where there are so many and each is one
abbrev pub Parts : Type 0
Parts = List (Option ConstantValue)

abbrev pub one : Parts → Option ConstantValue
one (Some a ∷ []) = Some a
one _ = None

abbrev pub two : Parts → Option (ConstantValue × ConstantValue)
two (Some a ∷ Some b ∷ []) = Some (a, b)
two _ = None

abbrev pub three : Parts → Option (ConstantValue × ConstantValue × ConstantValue)
three (Some a ∷ Some b ∷ Some c ∷ []) = Some (a, b, c)
three _ = None

-- the simple type of the one type that is written
abbrev pub the_type : (TypeUse → Option SimpleType) → List TypeUse → Option SimpleType
the_type simple (t ∷ []) = simple t
the_type simple _ = None

-- a number taken into a type that is written
abbrev pub taken : (TypeUse → Option SimpleType) → List TypeUse → Parts → Option ConstantValue
taken simple ts vs = given (the_type simple ts) (λ t. given (one vs) (converted t))

-- what a value does with constants, where it is said which constant a name is and which simple type a type is
unfoldable pub operated :
    (List ℕ → Option ConstantValue) → (TypeUse → Option SimpleType) → Operation → List TypeUse → Parts
    → Option ConstantValue
operated numbers simple (operation.Name x) ts vs = numbers x
operated numbers simple (operation.Int n k) ts vs = Some (Integer k (pos n))
operated numbers simple (operation.Double x) ts vs = Some (Double x)
operated numbers simple (operation.Bool b) ts vs = Some (bool b)
operated numbers simple operation.Parentheses ts vs = one vs
operated numbers simple (operation.Unary o) ts vs = given (one vs) (changed o)
operated numbers simple (operation.Binary o) ts vs = given (two vs) (λ p. joined o p.0 p.1)
operated numbers simple operation.Conditional ts vs = given (three vs) (λ p. chosen p.0 p.1 p.2)
operated numbers simple operation.Conversion ts vs = taken simple ts vs
operated numbers simple operation.Cast ts vs = taken simple ts vs
operated numbers simple _ ts vs = None

-- the constant that a value is, if it is one
abbrev mutual
  pub constant_of :
      (List ℕ → Option ConstantValue) → (TypeUse → Option SimpleType) → Value → Option ConstantValue
  constant_of numbers simple (Node' place what ts m row) =
      operated numbers simple what ts (constants_row numbers simple row)

  pub constants_row :
      (List ℕ → Option ConstantValue) → (TypeUse → Option SimpleType) → {m : _} → Row_of-Value m → Parts
  constants_row numbers simple end_of-Value = []
  constants_row numbers simple (more_of-Value v vs) =
      constant_of numbers simple v ∷ constants_row numbers simple vs
