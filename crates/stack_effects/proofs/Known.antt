-- Operators and effects, one of which is known.
use Rattle.std.proofs.Common.{◌≡◌, ℕ, List, [], ◌∷◌, sym, ap, ◌∙◌, subst}
use Rattle.std.specs.Prelude.{Result, Err}
use Rattle.mql_meaning.specs.declared.operator.Operator.{Operator}
use Rattle.mql_meaning.specs.declared.store.Store.{Store}
use Rattle.mql_meaning.specs.declared.tree.Class.{Class}
use Rattle.mql_meaning.specs.declared.types.VarType.{VarType}
use Rattle.mql_meaning.specs.Apply.{apply}
use Rattle.mql_meaning.specs.Changes.{Out, after, give}
use Rattle.mql_meaning.specs.Operands as meaning
use Rattle.store_cells.specs.Changes.{Leads}
use Rattle.store_cells.specs.declared.fault.Fault.{Fault}
use Rattle.store_cells.specs.declared.fault.Fault.TheVariants as fault
use Rattle.store_frames.specs.declared.operand.Operand.{Operand}
use Rattle.store_frames.specs.Operands.{shown}
use Rattle.stack_code.specs.declared.code.Code.{Code}
use Rattle.stack_code.specs.declared.code.Effect.{Effect}
use Rattle.stack_code.specs.Machine.{does_effect, operands_of}
use Rattle.stack_effects.specs.Works.{Works, all_shown, applies}

abbrev put_upon : List Operand → Out meaning.Operand → Out (List meaning.Operand)
put_upon ops out = after out (λ x. give (x ∷ all_shown ops))

pub none_fails : (cs : List Class) (o : Operator) (ops left : List Operand) (f : Fault) (old new : Store) →
    Leads (apply cs o [] old) (Err f) new → Works (applies 0 cs o) (Err f) ops left old new
none_fails cs o ops left (fault.End e) old new h = ap (put_upon ops) h
none_fails cs o ops left fault.OutOfMemory old new h = tt

pub two_fail : (cs : List Class) (o : Operator) (ops others rest left : List Operand) (x y : Operand) (f : Fault)
    (old new : Store) → ops ≡ y ∷ others → others ≡ x ∷ rest →
    Leads (apply cs o (shown x ∷ shown y ∷ []) old) (Err f) new → Works (applies 2 cs o) (Err f) ops left old new
two_fail cs o ops others rest left x y (fault.End e) old new is more h =
    ap (λ (xs : List Operand). applies 2 cs o (all_shown xs) old) (is ∙ ap (λ (xs : List Operand). y ∷ xs) more)
    ∙ ap (put_upon rest) h
two_fail cs o ops others rest left x y fault.OutOfMemory old new is more h = tt

-- an operator that takes so many operands
pub at_operator : (cs : List Class) (o p : Operator) (c : ℕ) (r : Result (Unit {0}) Fault) (ops left : List Operand)
    (old new : Store) → o ≡ p → operands_of p ≡ c → Works (applies c cs o) r ops left old new →
    Works (applies (operands_of o) cs o) r ops left old new
at_operator cs o p c r ops left old new is count h =
    subst (λ (n : ℕ). Works (applies n cs o) r ops left old new) (sym (ap operands_of is ∙ count)) h

-- an effect that is another one
pub at_effect : (code : Code) (locals : List VarType) (e f : Effect) (r : Result (Unit {0}) Fault)
    (ops left : List Operand) (old new : Store) → e ≡ f → Works (does_effect code locals f) r ops left old new →
    Works (does_effect code locals e) r ops left old new
at_effect code locals e f r ops left old new is h =
    subst (λ (g : Effect). Works (does_effect code locals g) r ops left old new) (sym is) h
