-- A running machine that fits its code (own).
use Rattle.std.specs.Prelude.{◌≡◌, ℕ, List, [], ◌∷◌, Option, Some}
use Rattle.mql_meaning.specs.declared.store.Store.{Store}
use Rattle.mql_meaning.specs.declared.types.VarType.{VarType}
use Rattle.mql_meaning.specs.Operands.{Operand}
use Rattle.stack_code.specs.declared.code.Code.{Code}
use Rattle.stack_code.specs.declared.code.FunctionCode.{FunctionCode}
use Rattle.stack_code.specs.declared.code.OperandType.{OperandType}
use Rattle.stack_code.specs.Machine.{Back, Next, On, Halt, function_at}
use Rattle.stack_validity.specs.Fits.{OperandsOf, StoreFits, Sound}
use Rattle.stack_validity.specs.Rules.{Kinds, with_result}

module _ (code : Code) (kinds : Kinds) where
  -- a caller waits for a value of a type, or for none: its operands are, with that value, of the kinds of the
  -- place where it goes on
  pub record Waiting (Rest : List Operand → Type 0) (b : Back) (c : FunctionCode)
      (callers : List FunctionCode) (result : Option VarType) (ops : List Operand) : Type 0 where
    pub there : function_at code b.function ≡ Some c
    pub known : List OperandType
    pub here : kinds b.function b.place ≡ Some (with_result result known)
    pub operands : OperandsOf code (c ∷ callers) Rest known ops

  -- all callers wait, the innermost first; the outermost call has no operand below it
  abbrev pub Waits : List Back → List FunctionCode → Option VarType → List Operand → Type 0
  Waits [] callers result ops = ops ≡ []
  Waits (b ∷ backs) [] result ops = ⊥
  Waits (b ∷ backs) (c ∷ callers) result ops = Waiting (Waits backs callers c.result) b c callers result ops

  -- the machine stands at a place of a function, with operands of the kinds there, and its store fits
  pub record Running (k place : ℕ) (ops : List Operand) (backs : List Back) (store : Store) : Type 0 where
    pub function : FunctionCode
    pub there : function_at code k ≡ Some function
    pub callers : List FunctionCode
    pub known : List OperandType
    pub here : kinds k place ≡ Some known
    pub operands : OperandsOf code (function ∷ callers) (Waits backs callers function.result) known ops
    pub fits : StoreFits code (function ∷ callers) store

  -- the machine runs so, or it has ended and not stuck, and what it left is as it should be
  abbrev pub Runs : (Store → Type 0) → Next → Type 0
  Runs AtEnd (On k place ops backs n w) = Running k place ops backs w.store
  Runs AtEnd (Halt e n w) = Sound e × AtEnd w.store
