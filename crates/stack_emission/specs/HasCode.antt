-- Which programs have code: those with no `new`, no `delete`, no virtual call and no cleanup, whose calls are
-- of functions that are there, and whose names and cases are of numbers.
use Rattle.std.specs.Prelude.{ℕ, ◌==◌, ◌&&◌, not, is_some, Bool, true, false, List, [], ◌∷◌, Option, Some, None, slice_get}
use Rattle.mql_mean.specs.declared.value.Value.{Value, out-Value}
use Rattle.mql_mean.specs.declared.value.Value.TheOpen.{Value-F}
use Rattle.mql_meaning.specs.declared.tree.Callee.{Callee}
use Rattle.mql_meaning.specs.declared.tree.Callee.TheVariants as callee
use Rattle.mql_meaning.specs.declared.tree.Expression.{Expression, Constant, Apply', Choose', Call', Native', Make', Delete', After', Named', Row_of-Expression, end_of-Expression, more_of-Expression}
use Rattle.mql_meaning.specs.declared.tree.Function.{Function}
use Rattle.mql_meaning.specs.declared.tree.Cleanup.{Cleanup}
use Rattle.mql_meaning.specs.declared.tree.Checked.{Checked}
use Rattle.mql_meaning.specs.declared.tree.Statement.{Statement, Evaluate, Reset, Return, Break, Continue, If', Loop', Switch', Block', Row_of-Statement, end_of-Statement, more_of-Statement}
use Rattle.stack_code.specs.declared.code.FunctionCode.{FunctionCode}
use Rattle.stack_code.specs.Machine.{arguments_of}
use Rattle.stack_follows.specs.Expressions.{count}

-- the code of a function before any of it is written
abbrev pub unwritten : Function → FunctionCode
unwritten f =
    record {
      name = f.name;
      class = f.class;
      makes = f.makes;
      lent = f.lent;
      locals = f.locals;
      result = f.result;
      labels = [];
      instructions = [];
    }

-- two answers are the same
abbrev pub same : Bool → Bool → Bool
same true b = b
same false b = not b

-- a function takes so many operands, and gives a value or none
abbrev pub takes : Option Function → ℕ → Bool → Bool
takes None operands gives = false
takes (Some f) operands gives = (arguments_of (unwritten f) == operands) && same (is_some f.result) gives

-- a call is of a function that is there
abbrev pub callee_has_code : List Function → Callee → Bool → ℕ → Bool
callee_has_code functions (callee.Direct k) gives operands = takes (slice_get functions k) operands gives
callee_has_code functions (callee.Virtual class signature) gives operands = false

-- a value of an integer kind
abbrev pub is_number_at : Value-F Value → Bool
is_number_at (Value-F.Num kind n) = true
is_number_at _ = false

abbrev pub is_number : Value → Bool
is_number v = is_number_at (out-Value v)

-- names of numbers
abbrev pub are_named : List Value → List (List ℕ) → Bool
are_named (v ∷ vs) (s ∷ ss) = is_number v && are_named vs ss
are_named _ _ = true

-- numbers
abbrev pub are_numbers : List Value → Bool
are_numbers [] = true
are_numbers (v ∷ vs) = is_number v && are_numbers vs

-- nothing is done where a block is left
abbrev pub no_cleanup : List Cleanup → Bool
no_cleanup [] = true
no_cleanup (c ∷ cs) = false

-- over the functions of the program
module _ (functions : List Function) where
  abbrev mutual
    pub expression_has_code : Expression → Bool
    expression_has_code (Constant v) = true
    expression_has_code (Apply' o p parts) = row_has_code parts
    expression_has_code (Choose' p parts) = row_has_code parts
    expression_has_code (Call' k gives p parts) =
        row_has_code parts && callee_has_code functions k gives (count parts)
    expression_has_code (Native' f p parts) = row_has_code parts
    expression_has_code (Make' class k p parts) = false
    expression_has_code (Delete' p parts) = false
    expression_has_code (After' p before q last) = row_has_code before && row_has_code last
    expression_has_code (Named' texts labels before p parts) = row_has_code parts && are_named labels texts

    pub row_has_code : {m : _} → Row_of-Expression m → Bool
    row_has_code end_of-Expression = true
    row_has_code (more_of-Expression e es) = expression_has_code e && row_has_code es

  -- each of some expressions
  abbrev pub have_code : List Expression → Bool
  have_code [] = true
  have_code (e ∷ es) = expression_has_code e && have_code es

  -- what a function gives back: nothing, or the first of some expressions
  abbrev pub given_has_code : List Expression → Bool
  given_has_code [] = true
  given_has_code (e ∷ es) = expression_has_code e

  abbrev mutual
    pub statement_has_code : Statement → Bool
    statement_has_code (Evaluate line e) = expression_has_code e
    statement_has_code (Reset line a b) = true
    statement_has_code (Return line es) = given_has_code es
    statement_has_code (Break line) = true
    statement_has_code (Continue line) = true
    statement_has_code (If' line e p held q failed) =
        expression_has_code e && (statements_have_code held && statements_have_code failed)
    statement_has_code (Loop' line first e step p body) =
        expression_has_code e && (have_code step && statements_have_code body)
    statement_has_code (Switch' line e labels places other p body) =
        expression_has_code e && (are_numbers labels && statements_have_code body)
    statement_has_code (Block' line p body cleanups) = statements_have_code body && no_cleanup cleanups

    pub statements_have_code : {m : _} → Row_of-Statement m → Bool
    statements_have_code end_of-Statement = true
    statements_have_code (more_of-Statement s ss) = statement_has_code s && statements_have_code ss

  -- a body, and functions
  abbrev pub body_has_code : List Statement → Bool
  body_has_code [] = true
  body_has_code (s ∷ ss) = statement_has_code s && body_has_code ss

  abbrev pub bodies_have_code : List Function → Bool
  bodies_have_code [] = true
  bodies_have_code (f ∷ fs) = body_has_code f.body && bodies_have_code fs

-- a program has code
abbrev pub has_code : Checked → Bool
has_code p = bodies_have_code p.functions p.functions
