-- The code that stands for an expression: a form, and its instructions (own). `new`, `delete` and virtual
-- calls have none.
use Rattle.std.specs.Prelude.{◌≡◌, ℕ, suc, ◌==◌, not, nat_le, Bool, true, false, List, [], ◌∷◌, length, Some}
use Rattle.fx8.specs.declared.int_kind.IntKind.{IntKind}
use Rattle.fx8.specs.declared.int_operator.IntOperator.TheVariants as op
use Rattle.mql_mean.specs.declared.value.Value.{Value}
use Rattle.mql_mean.specs.declared.value.Value.TheVariants as value
use Rattle.mql_meaning.specs.declared.operator.Operator.TheVariants as operator
use Rattle.mql_meaning.specs.declared.types.Sort.TheVariants as sort
use Rattle.mql_meaning.specs.declared.tree.Callee.{Callee}
use Rattle.mql_meaning.specs.declared.tree.Callee.TheVariants as callee
use Rattle.mql_meaning.specs.declared.tree.Expression.{Expression, Constant, Apply', Choose', Call', Native', Make', Delete', After', Named', Row_of-Expression, end_of-Expression, more_of-Expression}
use Rattle.mql_meaning.specs.Changes.{either}
use Rattle.mql_meaning.specs.Operands.{most_units}
use Rattle.mql_meaning.specs.Operators.{sort_of}
use Rattle.mql_meaning.specs.Expressions.{is_void}
use Rattle.stack_code.specs.declared.code.Effect.TheVariants as effect
use Rattle.stack_code.specs.declared.code.Instruction.TheVariants as instruction
use Rattle.stack_code.specs.Machine.{operands_of}
use Rattle.stack_follows.specs.Spans.{Listing, Span, ◌▷◌, Nothing, NoCode, WithLabel, One, Plain, Jump, Unless, Label, Push, StuckIf, LetGo}

-- how many parts there are
abbrev pub count : {m : _} → Row_of-Expression m → ℕ
count end_of-Expression = 0
count (more_of-Expression e es) = suc (count es)

-- a text that is no longer than a string may be, and an empty one in place of another
abbrev pub is_short : List ℕ → Bool
is_short s = nat_le (length s) most_units

abbrev pub if_short : List ℕ → List ℕ
if_short s = either (is_short s) s []

-- in the code of a function
module _ (here : Listing) where
  -- the topmost operand is compared with a number
  abbrev pub EqualAt : IntKind → Span
  EqualAt k = Plain here (effect.Apply (operator.Binary op.Equal (sort.Number k)))

  pub record Equals (number : Value) (pc pc' : ℕ) : Type 0 where
    pub kind : IntKind
    pub is_number : sort_of number ≡ Some (sort.Number kind)
    pub is : (Push here number ▷ EqualAt kind) pc pc'

  -- a call of a function that takes so many operands, and gives a value or none
  pub record CallOf (function : ℕ) (gives : Bool) (operands pc pc' : ℕ) : Type 0 where
    pub takes : here.function_at function operands gives
    pub one : One here (instruction.Call function) pc pc'

  abbrev pub CallAt : Callee → Bool → ℕ → Span
  CallAt (callee.Direct function) gives operands = CallOf function gives operands
  CallAt (callee.Virtual class signature) gives operands = NoCode

  -- a text is put before the one on top. A text that is short lies below that one; one that is too long ends
  -- the run where it is pushed
  abbrev pub JoinAt : Bool → List ℕ → Span
  JoinAt true before = Plain here (effect.Apply (operator.Binary op.Add sort.String))
  JoinAt false before = Push here (value.Str before)

  -- the name of the number on top, where it has one; else a text and the number
  abbrev pub NamesAt : List ℕ → ℕ → List Value → List (List ℕ) → Span
  NamesAt before out (k ∷ ks) (s ∷ ss) =
      WithLabel λ next. Plain here effect.Twice ▷ Equals k ▷ Unless here next
      ▷ Plain here effect.Drop ▷ Plain here effect.Drop ▷ Push here (value.Str s) ▷ Jump here out
      ▷ Label here next ▷ NamesAt before out ks ss
  NamesAt before out _ _ =
      Plain here (effect.Apply (operator.Convert sort.String)) ▷ JoinAt (is_short before) before

  abbrev mutual
    pub ExpressionAt : Expression → Span
    ExpressionAt (Constant v) = Push here v
    ExpressionAt (Apply' o p parts) =
        PartsAt parts ▷ StuckIf here (not (count parts == operands_of o)) ▷ Plain here (effect.Apply o)
    ExpressionAt (Choose' p parts) = ChoiceAt parts
    ExpressionAt (Call' function gives p parts) = PartsAt parts ▷ CallAt function gives (count parts)
    ExpressionAt (Native' function p parts) =
        PartsAt parts ▷ One here (instruction.Native function (count parts))
    ExpressionAt (Make' class constructor p parts) = NoCode
    ExpressionAt (Delete' p parts) = NoCode
    ExpressionAt (After' p before q last) = AllLetGo before ▷ PickAt true last
    ExpressionAt (Named' texts labels before p parts) =
        WithLabel λ out. Push here (value.Str (if_short before)) ▷ PickAt true parts
        ▷ NamesAt before out labels texts ▷ Label here out

    -- parts, whose operands come to lie one upon another
    pub PartsAt : {m : _} → Row_of-Expression m → Span
    PartsAt end_of-Expression = Nothing
    PartsAt (more_of-Expression e es) = (ExpressionAt e ▷ StuckIf here (is_void e)) ▷ PartsAt es

    -- a condition, and then the first or the second of what follows
    pub ChoiceAt : {m : _} → Row_of-Expression m → Span
    ChoiceAt end_of-Expression = StuckIf here true
    ChoiceAt (more_of-Expression c es) =
        WithLabel λ other. WithLabel λ out. (ExpressionAt c ▷ StuckIf here (is_void c)) ▷ Unless here other
        ▷ PickAt true es ▷ Jump here out
        ▷ Label here other ▷ PickAt false es ▷ Label here out

    pub PickAt : {m : _} → Bool → Row_of-Expression m → Span
    PickAt b end_of-Expression = StuckIf here true
    PickAt true (more_of-Expression e es) = ExpressionAt e ▷ StuckIf here (is_void e)
    PickAt false (more_of-Expression e es) = PickAt true es

    -- expressions whose values are let go
    pub AllLetGo : {m : _} → Row_of-Expression m → Span
    AllLetGo end_of-Expression = Nothing
    AllLetGo (more_of-Expression e es) = (ExpressionAt e ▷ LetGo here (is_void e)) ▷ AllLetGo es

  -- an expression where a value or a place must stand
  abbrev pub OperandAt : Expression → Span
  OperandAt e = ExpressionAt e ▷ StuckIf here (is_void e)

  -- expressions whose values are let go
  abbrev pub LetsGo : List Expression → Span
  LetsGo [] = Nothing
  LetsGo (e ∷ es) = (ExpressionAt e ▷ LetGo here (is_void e)) ▷ LetsGo es
