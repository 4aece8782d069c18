-- Operators on two operands.
use Rattle.std.proofs.Common.{◌≡◌, List, [], ◌∷◌, refl, sym, ap, ◌∙◌, subst}
use Rattle.std.specs.Prelude.{Result}
use Rattle.fx8.specs.declared.int_operator.IntOperator.{IntOperator}
use Rattle.mql_mean.specs.declared.value.Value.{Value}
use Rattle.mql_meaning.specs.declared.operator.Operator.{Operator}
use Rattle.mql_meaning.specs.declared.operator.Operator.TheVariants as operator
use Rattle.mql_meaning.specs.declared.place.Place.{Place}
use Rattle.mql_meaning.specs.declared.store.Store.{Store}
use Rattle.mql_meaning.specs.declared.tree.Class.{Class}
use Rattle.mql_meaning.specs.Apply.{apply}
use Rattle.mql_meaning.specs.declared.types.Sort.{Sort}
use Rattle.mql_meaning.specs.Changes.{Out, Done, Over, Stuck, after, give}
use Rattle.mql_meaning.specs.Operands as meaning
use Rattle.mql_meaning.specs.Operands.{Val, At}
use Rattle.mql_meaning.specs.Operators.{Update, update}
use Rattle.store_cells.specs.declared.fault.Fault.{Fault}
use Rattle.store_cells.specs.Changes.{Leads}
use Rattle.store_frames.specs.declared.operand.Operand.{Operand}
use Rattle.stack_operators.specs.Answers.{answered}
use Rattle.stack_operators.specs.Steps.{updated}

-- no operator takes two places
pub two_places : (cs : List Class) (o : Operator) (p q : Place) (store : Store) →
    apply cs o (At p ∷ At q ∷ []) store ≡ Over Stuck store
two_places cs (operator.Local l) p q store = refl
two_places cs (operator.Global g) p q store = refl
two_places cs operator.This p q store = refl
two_places cs (operator.Field i) p q store = refl
two_places cs operator.Index p q store = refl
two_places cs operator.Object p q store = refl
two_places cs operator.Read p q store = refl
two_places cs operator.PointerOf p q store = refl
two_places cs operator.Keep p q store = refl
two_places cs (operator.Update o t) p q store = refl
two_places cs (operator.Bump b) p q store = refl
two_places cs (operator.Unary u t) p q store = refl
two_places cs (operator.Binary o t) p q store = refl
two_places cs (operator.Convert t) p q store = refl
two_places cs (operator.Cast class strict) p q store = refl

-- the new value of an update
new_valued : (out : Out Update) →
    after out (λ (u : Update). give (Val u.new)) ≡ after (after out (λ (u : Update). give u.new)) (λ v. give (Val v))
new_valued (Done u s) = refl
new_valued (Over e s) = refl

pub updates : (cs : List Class) (o : Operator) (by : IntOperator) (t : Sort) (y : Value) (p : Place) (old new : Store)
    (r : Result Operand Fault) → o ≡ operator.Update by t →
    Leads (after (updated by t y p old) (λ v. give (Val v))) (answered r) new →
    Leads (apply cs o (Val y ∷ At p ∷ []) old) (answered r) new
updates cs o by t y p old new r e h =
    subst (λ (out : Out meaning.Operand). Leads out (answered r) new)
    (sym (ap (λ (x : Operator). apply cs x (Val y ∷ At p ∷ []) old) e ∙ new_valued (update by t y p old))) h
