-- What expressions do and give (MQL5 Reference, Language Basics, Operations and Expressions; Function Call;
-- Object Create and Delete Operators; Virtual Functions). Parts go from left to right, in an assignment the
-- right side before the place.
use Rattle.std.specs.Prelude.{ℕ, ◌==◌, not, Bool, true, false, List, [], ◌∷◌}
use Rattle.mql_mean.specs.declared.value.Value.{Value}
use Rattle.mql_mean.specs.declared.value.Value.TheVariants as value
use Rattle.mql_meaning.specs.declared.tree.Class.{Class}
use Rattle.mql_meaning.specs.declared.tree.Expression.{Expression, Constant, Apply', Choose', Call', Native', Make', Delete', After', Named', Row_of-Expression, end_of-Expression, more_of-Expression}
use Rattle.mql_meaning.specs.Changes.{Stuck}
use Rattle.mql_meaning.specs.Runs.{Act, ◌>>=◌, ◌>>◌, pure, halt, change, choose}
use Rattle.mql_meaning.specs.Places.{pointed}
use Rattle.mql_meaning.specs.Objects.{new_object, end_automatic, free}
use Rattle.mql_meaning.specs.Operands.{Operand, Val, At, literal}
use Rattle.mql_meaning.specs.Apply.{apply}
use Rattle.mql_meaning.specs.Natives.{void_value}
use Rattle.mql_meaning.specs.Calls.{native_void, calls_native}
use Rattle.mql_meaning.specs.Dispatch.{chosen, destructor, status, null, serial_place, one_value, condition, name_of}

-- what a call of a function of a number with operands does
abbrev pub Call : Type 0
Call = ℕ → List Operand → Act Value

-- an expression that gives no value
abbrev pub is_void : Expression → Bool
is_void (Constant v) = false
is_void (Apply' o p parts) = false
is_void (Choose' p parts) = false
is_void (Call' k gives p parts) = not gives
is_void (Native' f p parts) = native_void f
is_void (Make' class k p parts) = false
is_void (Delete' p parts) = true
is_void (After' p before q last) = false
is_void (Named' texts labels prefix p parts) = false

-- where a value must stand, a call that gives none is what typing excludes
abbrev pub must_give : Bool → Operand → Act Operand
must_give true x = halt Stuck
must_give false x = pure x

-- over the classes, and what a call does
module _ (classes : List Class) (call : Call) where
  -- the object of a pointer is destroyed: its class's destructor runs, and then the object ends if it is
  -- automatic
  abbrev pub destroys : Value → Act (Unit {0})
  destroys v = do
    k ← change (destructor classes v)
    at ← change (serial_place v)
    call k (At at ∷ [])
    change (end_automatic v)

  -- `delete` of a pointer that is not `NULL`: a dynamic object that lives is destroyed and taken away; where
  -- the pointer is another one or has become so it is InvalidPointer
  abbrev pub deletes_object : Value → ℕ → Act (Unit {0})
  deletes_object v state =
      choose (state == 1) (destroys v >>= λ _. change (free v)) (change (free v))

  -- `delete`: nothing is done for `NULL`
  abbrev pub deletes : Value → Act (Unit {0})
  deletes v = do
    is_null ← change (null v)
    state ← change (status v)
    choose is_null (pure tt) (deletes_object v state)

  abbrev mutual
    pub evaluates : Expression → Act Operand
    evaluates (Constant v) = change (literal v) >>= λ u. pure (Val u)
    evaluates (Apply' o p parts) = operands parts >>= λ xs. change (apply classes o xs)
    evaluates (Choose' p parts) = chooses parts
    evaluates (Call' k gives p parts) = do
      xs ← operands parts
      f ← change (chosen classes k xs)
      v ← call f xs
      pure (Val v)
    evaluates (Native' f p parts) = operands parts >>= λ xs. calls_native f xs >>= λ v. pure (Val v)
    evaluates (Make' class k p parts) = do
      s ← change (new_object classes false class)
      at ← change (pointed (value.Ptr s))
      xs ← operands parts
      call k (At at ∷ xs)
      pure (Val (value.Ptr s))
    evaluates (Delete' p parts) = do
      xs ← operands parts
      v ← change (one_value xs)
      deletes v
      pure (Val void_value)
    evaluates (After' p before q last) = lets_go before >>= λ _. picks true last
    evaluates (Named' texts labels prefix p parts) = do
      x ← picks true parts
      change (name_of x labels texts prefix)

    pub operands : {m : _} → Row_of-Expression m → Act (List Operand)
    operands end_of-Expression = pure []
    operands (more_of-Expression e es) =
        evaluates e >>= must_give (is_void e) >>= λ x. operands es >>= λ xs. pure (x ∷ xs)

    -- a condition, and then the first or the second of what follows
    pub chooses : {m : _} → Row_of-Expression m → Act Operand
    chooses end_of-Expression = halt Stuck
    chooses (more_of-Expression c es) =
        evaluates c >>= must_give (is_void c) >>= λ x. change (condition x) >>= λ b. picks b es

    pub picks : {m : _} → Bool → Row_of-Expression m → Act Operand
    picks b end_of-Expression = halt Stuck
    picks true (more_of-Expression e es) = evaluates e >>= must_give (is_void e)
    picks false (more_of-Expression e es) = picks true es

    -- expressions whose values are let go
    pub lets_go : {m : _} → Row_of-Expression m → Act (Unit {0})
    lets_go end_of-Expression = pure tt
    lets_go (more_of-Expression e es) = evaluates e >>= λ _. lets_go es

  -- an expression that stands where a value or a place must
  abbrev pub operand_of : Expression → Act Operand
  operand_of e = evaluates e >>= must_give (is_void e)

  -- a condition, and expressions whose values are let go
  abbrev pub test_of : Expression → Act Bool
  test_of e = operand_of e >>= λ x. change (condition x)

  abbrev pub let_go : List Expression → Act (Unit {0})
  let_go [] = pure tt
  let_go (e ∷ es) = evaluates e >>= λ _. let_go es
