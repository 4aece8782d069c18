-- A small program, and code that stands for it: the definitions can be met.
use Rattle.std.proofs.Common.{ℕ, zero, suc, pos, true, false, [], ◌∷◌, Some, None, slice_get, refl}
use Rattle.fx8.specs.declared.int_kind.IntKind.TheVariants as kind
use Rattle.fx8.specs.declared.int_operator.IntOperator.{IntOperator}
use Rattle.fx8.specs.declared.int_operator.IntOperator.TheVariants as op
use Rattle.mql_mean.specs.declared.value.Value.TheVariants as value
use Rattle.mql_meaning.specs.declared.types.Base.TheVariants as base
use Rattle.mql_meaning.specs.declared.types.VarType.{VarType}
use Rattle.mql_meaning.specs.declared.types.Sort.TheVariants as sort
use Rattle.mql_meaning.specs.declared.operator.Operator.TheVariants as operator
use Rattle.mql_meaning.specs.declared.operator.Bump.TheVariants as bump
use Rattle.mql_meaning.specs.declared.tree.Callee.TheVariants as callee
use Rattle.mql_meaning.specs.declared.tree.Expression.{Expression}
use Rattle.mql_meaning.specs.declared.tree.Expression.TheVariants as expression
use Rattle.mql_meaning.specs.declared.tree.Expression.TheBlock as ExpressionRow
use Rattle.mql_meaning.specs.declared.tree.Statement.TheVariants as statement
use Rattle.mql_meaning.specs.declared.tree.Statement.TheBlock as StatementRow
use Rattle.mql_meaning.specs.declared.tree.Entries.{Entries}
use Rattle.mql_meaning.specs.declared.tree.Function.{Function}
use Rattle.mql_meaning.specs.declared.tree.Checked.{Checked}
use Rattle.stack_code.specs.declared.code.Code.{Code}
use Rattle.stack_code.specs.declared.code.FunctionCode.{FunctionCode}
use Rattle.stack_code.specs.declared.code.Label.{Label}
use Rattle.stack_code.specs.declared.code.Effect.TheVariants as effect
use Rattle.stack_code.specs.declared.code.Instruction.TheVariants as instruction
use Rattle.stack_code.specs.Machine.{function_at}
use Rattle.stack_follows.specs.Stands.{Coded, CodeOf, Stands}
use Rattle.stack_follows.specs.Follows.{Follows}
use Rattle.stack_follows.proofs.Whole.{follows}

abbrev ints : VarType
ints = record { base = base.Number kind.Int; dimensions = [] }

-- a local as a place and as a number, a literal, an operator on numbers
abbrev local : Expression
local = expression.Apply (operator.Local 0) []

abbrev read : Expression
read = expression.Apply operator.Read (local ∷ [])

abbrev int : ℕ → Expression
int n = expression.Constant (value.Num kind.Int (pos n))

abbrev binary : IntOperator → Expression → Expression → Expression
binary o x y = expression.Apply (operator.Binary o (sort.Number kind.Int)) (x ∷ y ∷ [])

-- OnTick: for(;i<3;i++) if(doubled(i)==2) break;
abbrev tick : Function
tick =
    record {
      name = [];
      class = None;
      makes = false;
      lent = [];
      locals = ints ∷ [];
      result = None;
      body =
          statement.Loop 1 false (binary op.Less read (int 3)) (expression.Apply (operator.Bump bump.MoreAfter) (local ∷ []) ∷ []) (
          statement.If 2 (binary op.Equal (expression.Call (callee.Direct 1) true (read ∷ [])) (int 2)) (statement.Break 3 ∷ []) [] ∷
          []) ∷ [];
    }

-- int doubled(int n) { return n+n; }
abbrev doubled : Function
doubled =
    record {
      name = [];
      class = None;
      makes = false;
      lent = false ∷ [];
      locals = ints ∷ [];
      result = Some ints;
      body =
          statement.Return 4 (binary op.Add read read ∷ []) ∷ [];
    }

abbrev entries : Entries
entries = record { start = None; init = None; tick = Some 0; trade = None; tester = None; deinit = None; stop = None }

abbrev program : Checked
program = record { classes = []; functions = tick ∷ doubled ∷ []; globals = []; inputs = []; entries = entries }

-- a label before the instruction of a number
abbrev label : ℕ → Label
label place = record { place = place; operands = [] }

abbrev tick_code : FunctionCode
tick_code =
    record {
      name = [];
      class = None;
      makes = false;
      lent = [];
      locals = ints ∷ [];
      result = None;
      labels = label 23 ∷ label 2 ∷ label 8 ∷ label 18 ∷ label 23 ∷ label 18 ∷ label 18 ∷ [];
      instructions =
          instruction.Step ∷
          instruction.Plain (effect.Line 1) ∷
          instruction.Step ∷
          instruction.Plain (effect.Apply (operator.Local 0)) ∷
          instruction.Plain (effect.Apply operator.Read) ∷
          instruction.Plain (effect.Constant 0) ∷
          instruction.Plain (effect.Apply (operator.Binary op.Less (sort.Number kind.Int))) ∷
          instruction.Unless 4 ∷
          instruction.Plain (effect.Line 2) ∷
          instruction.Plain (effect.Apply (operator.Local 0)) ∷
          instruction.Plain (effect.Apply operator.Read) ∷
          instruction.Call 1 ∷
          instruction.Plain (effect.Constant 1) ∷
          instruction.Plain (effect.Apply (operator.Binary op.Equal (sort.Number kind.Int))) ∷
          instruction.Unless 5 ∷
          instruction.Plain (effect.Line 3) ∷
          instruction.Jump 4 ∷
          instruction.Jump 6 ∷
          instruction.Plain (effect.Line 1) ∷
          instruction.Plain (effect.Apply (operator.Local 0)) ∷
          instruction.Plain (effect.Apply (operator.Bump bump.MoreAfter)) ∷
          instruction.Plain effect.Drop ∷
          instruction.Jump 1 ∷
          instruction.Return ∷ [];
    }

abbrev doubled_code : FunctionCode
doubled_code =
    record {
      name = [];
      class = None;
      makes = false;
      lent = false ∷ [];
      locals = ints ∷ [];
      result = Some ints;
      labels = label 10 ∷ [];
      instructions =
          instruction.Step ∷
          instruction.Plain (effect.Line 4) ∷
          instruction.Plain (effect.Apply (operator.Local 0)) ∷
          instruction.Plain (effect.Apply operator.Read) ∷
          instruction.Plain (effect.Apply (operator.Local 0)) ∷
          instruction.Plain (effect.Apply operator.Read) ∷
          instruction.Plain (effect.Apply (operator.Binary op.Add (sort.Number kind.Int))) ∷
          instruction.Jump 0 ∷
          instruction.Plain (effect.Constant 2) ∷
          instruction.Plain (effect.Apply operator.Read) ∷
          instruction.Return ∷ [];
    }

abbrev code : Code
code =
    record {
      constants =
          value.Num kind.Int (pos 3) ∷
          value.Num kind.Int (pos 2) ∷
          value.Num kind.Int (pos 0) ∷ [];
      classes = [];
      globals = [];
      inputs = [];
      functions = tick_code ∷ doubled_code ∷ [];
      entries = entries;
    }

-- the code stands for the program, form by form
tick_coded : CodeOf code 0 tick tick_code
unfolding ExpressionRow.hidden-the_row-Expression-0 StatementRow.hidden-the_row-Statement-0 denote.Hole.Carrier.hidden
tick_coded = record { head = refl; nowhere = 1000; is_nowhere = refl; end = 24; is = record { label = 0; is = record { mid = 1; first = record { at = refl; next = refl }; rest = record { mid = 23; first = record { mid = 23; first = record { label = 1; is = record { label = 2; is = record { label = 3; is = record { label = 4; is = record { mid = 2; first = record { at = refl; next = refl }; rest = record { mid = 2; first = refl; rest = record { mid = 2; first = record { at = refl; same = refl }; rest = record { mid = 3; first = record { at = refl; next = refl }; rest = record { mid = 7; first = record { mid = 7; first = record { mid = 6; first = record { mid = 5; first = record { mid = 5; first = record { mid = 4; first = record { mid = 4; first = record { mid = 4; first = record { mid = 3; first = refl; rest = record { mid = 3; first = refl; rest = record { at = refl; next = refl } } }; rest = refl }; rest = refl }; rest = record { mid = 4; first = refl; rest = record { at = refl; next = refl } } }; rest = refl }; rest = record { mid = 6; first = record { mid = 6; first = record { number = 0; is = refl; one = record { at = refl; next = refl } }; rest = refl }; rest = refl } }; rest = record { mid = 6; first = refl; rest = record { at = refl; next = refl } } }; rest = refl }; rest = record { mid = 8; first = record { at = refl; next = refl }; rest = record { mid = 8; first = record { at = refl; same = refl }; rest = record { mid = 18; first = record { mid = 18; first = record { label = 5; is = record { label = 6; is = record { mid = 9; first = record { at = refl; next = refl }; rest = record { mid = 14; first = record { mid = 14; first = record { mid = 13; first = record { mid = 12; first = record { mid = 12; first = record { mid = 11; first = record { mid = 11; first = record { mid = 11; first = record { mid = 10; first = record { mid = 10; first = record { mid = 10; first = record { mid = 9; first = refl; rest = record { mid = 9; first = refl; rest = record { at = refl; next = refl } } }; rest = refl }; rest = refl }; rest = record { mid = 10; first = refl; rest = record { at = refl; next = refl } } }; rest = refl }; rest = refl }; rest = record { takes = record { function = doubled_code; is = refl; takes = refl; result = refl }; one = record { at = refl; next = refl } } }; rest = refl }; rest = record { mid = 13; first = record { mid = 13; first = record { number = 1; is = refl; one = record { at = refl; next = refl } }; rest = refl }; rest = refl } }; rest = record { mid = 13; first = refl; rest = record { at = refl; next = refl } } }; rest = refl }; rest = record { mid = 15; first = record { at = refl; next = refl }; rest = record { mid = 17; first = record { mid = 17; first = record { mid = 16; first = record { at = refl; next = refl }; rest = record { at = refl; next = refl } }; rest = refl }; rest = record { mid = 18; first = record { at = refl; next = refl }; rest = record { mid = 18; first = record { at = refl; same = refl }; rest = record { mid = 18; first = refl; rest = record { at = refl; same = refl } } } } } } } } } }; rest = refl }; rest = record { mid = 18; first = record { at = refl; same = refl }; rest = record { mid = 19; first = record { at = refl; next = refl }; rest = record { mid = 22; first = record { mid = 22; first = record { mid = 21; first = record { mid = 20; first = record { mid = 20; first = record { mid = 20; first = record { mid = 19; first = refl; rest = record { mid = 19; first = refl; rest = record { at = refl; next = refl } } }; rest = refl }; rest = refl }; rest = record { mid = 20; first = refl; rest = record { at = refl; next = refl } } }; rest = record { at = refl; next = refl } }; rest = refl }; rest = record { mid = 23; first = record { at = refl; next = refl }; rest = record { at = refl; same = refl } } } } } } } } } } } } } } } } }; rest = refl }; rest = record { mid = 23; first = refl; rest = record { mid = 23; first = record { at = refl; same = refl }; rest = record { at = refl; next = refl } } } } } } }

doubled_coded : CodeOf code 1 doubled doubled_code
unfolding ExpressionRow.hidden-the_row-Expression-0 StatementRow.hidden-the_row-Statement-0 denote.Hole.Carrier.hidden
doubled_coded = record { head = refl; nowhere = 1000; is_nowhere = refl; end = 11; is = record { label = 0; is = record { mid = 1; first = record { at = refl; next = refl }; rest = record { mid = 8; first = record { mid = 8; first = record { mid = 2; first = record { at = refl; next = refl }; rest = record { mid = 2; first = refl; rest = record { mid = 7; first = record { mid = 7; first = record { mid = 6; first = record { mid = 4; first = record { mid = 4; first = record { mid = 3; first = record { mid = 3; first = record { mid = 3; first = record { mid = 2; first = refl; rest = record { mid = 2; first = refl; rest = record { at = refl; next = refl } } }; rest = refl }; rest = refl }; rest = record { mid = 3; first = refl; rest = record { at = refl; next = refl } } }; rest = refl }; rest = record { mid = 6; first = record { mid = 6; first = record { mid = 5; first = record { mid = 5; first = record { mid = 5; first = record { mid = 4; first = refl; rest = record { mid = 4; first = refl; rest = record { at = refl; next = refl } } }; rest = refl }; rest = refl }; rest = record { mid = 5; first = refl; rest = record { at = refl; next = refl } } }; rest = refl }; rest = refl } }; rest = record { mid = 6; first = refl; rest = record { at = refl; next = refl } } }; rest = refl }; rest = record { at = refl; next = refl } } } }; rest = refl }; rest = record { mid = 10; first = record { mid = 9; first = record { number = 2; is = refl; one = record { at = refl; next = refl } }; rest = record { at = refl; next = refl } }; rest = record { mid = 10; first = record { at = refl; same = refl }; rest = record { at = refl; next = refl } } } } } } }

coded : (k : ℕ) → Coded code k (slice_get program.functions k) (function_at code k)
coded zero = tick_coded
coded (suc zero) = doubled_coded
coded (suc (suc k)) = tt

code_stands : Stands program code
code_stands = record { tables = refl; functions = coded }

code_follows : Follows program code
code_follows = follows program code code_stands
