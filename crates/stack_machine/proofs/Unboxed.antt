-- Instructions on operands that take no memory.
use Rattle.std.proofs.Common.{◌≡◌, ℕ, suc, ◌+◌, Bool, true, false, List, [], ◌∷◌, map, Option, Some, Result, Ok, Err, refl, sym, ap, ◌∙◌}
use Rattle.std.specs.Prelude.{not}
use Rattle.fx8.specs.declared.out_of_memory.OutOfMemory.{OutOfMemory}
use Rattle.fx8.specs.Integers.{is_zero}
use Rattle.mql_mean.specs.declared.value.Value.{out-Value}
use denote.Hole.Carrier.{out}
use Rattle.mql_mean.specs.declared.host.HostCall.{HostCall}
use Rattle.mql_mean.specs.Answer.{Answer}
use Rattle.mql_meaning.specs.declared.store.Store.{Store}
use Rattle.mql_meaning.specs.declared.types.VarType.{VarType}
use Rattle.mql_meaning.specs.Changes.{Done}
use Rattle.mql_meaning.specs.Runs.{world}
use Rattle.mql_meaning.specs.Operands as meaning
use Rattle.store_frames.specs.Operands.{shown}
use Rattle.stack_code.specs.declared.code.Code.{Code}
use Rattle.stack_code.specs.declared.code.Effect.{Effect}
use Rattle.stack_code.specs.declared.code.Instruction.{Instruction}
use Rattle.stack_code.specs.declared.code.Instruction.TheVariants as op
use Rattle.stack_code.specs.Machine.{On, act, branch, does_effect, fetch, function_at, goes, label_at, locals_of, stepped, Taken, beside}
use Rattle.stack_code.specs.Paced.{Paced}
use Rattle.stack_unboxed.specs.declared.unboxed.Unboxed.{Unboxed}
use Rattle.stack_unboxed.specs.declared.unboxed.Unboxed.TheVariants as unboxed
use Rattle.stack_unboxed.specs.declared.unboxed.Number.{Number}
use Rattle.stack_unboxed.specs.Unboxed.{Did, boxed, upon}
use Rattle.stack_machine.specs.declared.state.State.{State}
use Rattle.stack_machine.specs.Operands.{tested}
use Rattle.stack_machine.specs.Quick.{Acted, Went}
use Rattle.stack_machine.specs.Steps.{back}
use Rattle.stack_machine.proofs.Falls.{nears}
use Rattle.stack_machine.proofs.Lands.{lands}

-- a number as a condition
tested_number : (m : Number) (rest : List meaning.Operand) (store : Store) →
    tested (boxed (unboxed.Number m) ∷ rest) store ≡ Done (beside (not (is_zero m.number)) rest) store
unfolding out-Value out
tested_number m rest store = refl

module _ (code : Code) (s : State) (n : ℕ) where
  pub plain_done : (e : Effect) (top top' : List Unboxed) (store' : Store) →
      ((ts : List VarType) → Did (does_effect code ts e) (Ok true) top top' s.store store') →
      Acted code (op.Plain e) (Ok true) s top n (record s { place = s.place + 1; store = store' }) top' n
  plain_done e top top' store' d calls answers =
      let ops = map shown s.operands in
      let ts = locals_of (function_at code s.function) in
      lands (does_effect code ts e (upon top ops)) s.store store'
      (λ ops. On s.function (s.place + 1) ops (map back s.backs)) n calls answers (upon top' ops) (d ts ops)

  pub jump_done : (label place : ℕ) (top : List Unboxed) → Some place ≡ label_at code s.function label →
      Acted code (op.Jump label) (Ok true) s top n (record s { place = place }) top n
  jump_done label place top e calls answers =
      ap (λ (o : Option ℕ). goes o s.function (upon top (map shown s.operands)) (map back s.backs) n (world s.store calls answers)) (sym e)

  unless_so : (label : ℕ) (m : Number) (top rest : List Unboxed) (b : Bool) → top ≡ unboxed.Number m ∷ rest → is_zero m.number ≡ b →
      (calls : List HostCall) (answers : List Answer) →
      act code (Some (op.Unless label)) s.function s.place (upon top (map shown s.operands)) (map back s.backs) n (world s.store calls answers)
      ≡ branch (not b) (On s.function (s.place + 1) (upon rest (map shown s.operands)) (map back s.backs) n (world s.store calls answers))
      (goes (label_at code s.function label) s.function (upon rest (map shown s.operands)) (map back s.backs) n (world s.store calls answers))
  unless_so label m top rest b e z calls answers =
      let ops = map shown s.operands in
      ap (λ (p : List Unboxed). act code (Some (op.Unless label)) s.function s.place (upon p ops) (map back s.backs) n (world s.store calls answers)) e
      ∙ lands (tested (boxed (unboxed.Number m) ∷ upon rest ops)) s.store s.store
      (λ (t : Taken Bool) n w. branch t.it (On s.function (s.place + 1) t.rest (map back s.backs) n w) (goes (label_at code s.function label) s.function t.rest (map back s.backs) n w))
      n calls answers (beside (not (is_zero m.number)) (upon rest ops)) (tested_number m (upon rest ops) s.store)
      ∙ ap (λ (b : Bool). branch (not b) (On s.function (s.place + 1) (upon rest ops) (map back s.backs) n (world s.store calls answers)) (goes (label_at code s.function label) s.function (upon rest ops) (map back s.backs) n (world s.store calls answers))) z

  pub unless_holds : (label : ℕ) (m : Number) (top rest : List Unboxed) → top ≡ unboxed.Number m ∷ rest → is_zero m.number ≡ false →
      Acted code (op.Unless label) (Ok true) s top n (record s { place = s.place + 1 }) rest n
  unless_holds label m top rest e z calls answers = unless_so label m top rest false e z calls answers

  pub unless_fails : (label place : ℕ) (m : Number) (top rest : List Unboxed) → Some place ≡ label_at code s.function label →
      top ≡ unboxed.Number m ∷ rest → is_zero m.number ≡ true →
      Acted code (op.Unless label) (Ok true) s top n (record s { place = place }) rest n
  unless_fails label place m top rest l e z calls answers =
      unless_so label m top rest true e z calls answers
      ∙ ap (λ (o : Option ℕ). goes o s.function (upon rest (map shown s.operands)) (map back s.backs) n (world s.store calls answers)) (sym l)

  pub step_spent : (n' : ℕ) (top : List Unboxed) → n ≡ suc n' →
      Acted code op.Step (Ok true) s top n (record s { place = s.place + 1 }) top n'
  step_spent n' top e calls answers =
      ap (λ (m : ℕ). stepped m (On s.function (s.place + 1) (upon top (map shown s.operands)) (map back s.backs)) (world s.store calls answers)) e

-- an instruction that is there, as one of a run
pub went_on : (code : Code) (i : Instruction) (s s' : State) (n n' : ℕ) (top top' : List Unboxed) (r : Result Bool OutOfMemory) →
    Paced code → fetch code s.function s.place ≡ Some i → Acted code i r s top n s' top' n' → Went code r s top n s' top' n'
went_on code i s s' n n' top top' (Ok true) paced here acted = (
  (λ calls answers. record {
    instructions = 1;
    is = ap (λ (o : Option Instruction). act code o s.function s.place (upon top (map shown s.operands)) (map back s.backs) n (world s.store calls answers)) here ∙ acted calls answers;
  }),
  nears code paced i s s' n n' (upon top (map shown s.operands)) (upon top' (map shown s'.operands)) here (acted [] []),
)
went_on code i s s' n n' top top' (Ok false) paced here acted = acted
went_on code i s s' n n' top top' (Err e) paced here acted = tt
