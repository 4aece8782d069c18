-- The beginning of an event.
use Rattle.std.proofs.Common.{◌≡◌, ℕ, ℤ, List, [], map, Option, Some, None, Result, Ok, Err, sym, ap, ◌∙◌, subst}
use Rattle.std.specs.Prelude.{IfOk}
use Rattle.fx8.specs.declared.out_of_memory.OutOfMemory.{OutOfMemory}
use Rattle.mql_mean.specs.declared.host.HostCall.{HostCall}
use Rattle.mql_mean.specs.Answer.{Answer}
use Rattle.mql_meaning.specs.declared.store.Store.{Store}
use Rattle.mql_meaning.specs.declared.tree.Class.{Class}
use Rattle.mql_meaning.specs.declared.tree.Entry.{Entry}
use Rattle.mql_meaning.specs.declared.tree.Entry.TheVariants as entry
use Rattle.mql_meaning.specs.declared.tree.Input.{Input}
use Rattle.mql_meaning.specs.declared.types.VarType.{VarType}
use Rattle.mql_meaning.specs.Frames.{begin}
use Rattle.mql_meaning.specs.Changes.{Ended, Stuck, Done}
use Rattle.mql_meaning.specs.Runs.{World, world}
use Rattle.mql_meaning.specs.Means.{first, event, event_arguments}
use Rattle.mql_meaning.specs.Operands as meaning
use Rattle.store_cells.specs.declared.fault.Fault as changes
use Rattle.store_cells.specs.declared.fault.Fault.TheVariants as change_fault
use Rattle.store_cells.specs.Changes.{ended, Does}
use Rattle.store_frames.specs.declared.operand.Operand.{Operand}
use Rattle.store_frames.specs.Operands.{shown}
use Rattle.stack_code.specs.declared.code.Code.{Code}
use Rattle.stack_code.specs.Machine.{Next, begins, starts, starts_at, function_at, program_of}
use Rattle.stack_begins.specs.Begins.{program}
use Rattle.stack_machine.specs.declared.ends.End.{End}
use Rattle.stack_machine.specs.declared.ends.Fault.{Fault}
use Rattle.stack_machine.specs.declared.state.Back.{Back}
use Rattle.stack_machine.specs.declared.state.State.{State}
use Rattle.stack_machine.specs.Ends.{as_ended, faulted}
use Rattle.stack_machine.specs.Steps.{Reach, Run, Ends, back, on, over}
use Rattle.stack_machine.proofs.Lands.{lands, ends_so, told}
use Rattle.stack_machine.proofs.Turns.{run_from, run_over}

module _ (code : Code) (e : Entry) (arg : ℤ) (n : ℕ) (store : Store) (calls : List HostCall) (answers : List Answer) where
  abbrev goes_on : Unit {0} → ℕ → World → Next
  goes_on u = starts_at code (event (program_of code) e) (event_arguments e arg)

  pub not_first : (why : changes.Fault) (s' : State) → Does {A = Unit {0}} (first (program_of code) e) (Err why) store s'.store →
      Reach {A = Unit {0}} (Err (faulted why)) s' n calls answers (begins code e arg n (world store calls answers))
  not_first (change_fault.End x) s' d =
      ends_so (first (program_of code) e) store s'.store goes_on n calls answers (ended x) d
      ∙ ap (λ (w : Ended). over w s'.store n calls answers) (told x)
  not_first change_fault.OutOfMemory s' d = tt

  pub no_event : (store' : Store) (u : Unit {0}) → first (program_of code) e store ≡ Done u store' → event (program_of code) e ≡ None →
      begins code e arg n (world store calls answers) ≡ over Stuck store' n calls answers
  no_event store' u d none =
      lands (first (program_of code) e) store store' goes_on n calls answers u d
      ∙ ap (λ (o : Option ℕ). starts_at code o (event_arguments e arg) n (world store' calls answers)) none

  pub event_begins : {A : Type 0} (r : Result A Fault) (s' : State) (store' : Store) (k : ℕ) (xs ops : List Operand) (bs : List Back) (u : Unit {0}) →
      first (program_of code) e store ≡ Done u store' → event (program_of code) e ≡ Some k → map shown xs ≡ event_arguments e arg →
      ops ≡ [] → bs ≡ [] →
      Reach r s' n calls answers (starts code.classes (function_at code k) k (map shown xs) (map shown ops) (map back bs) n (world store' calls answers)) →
      Reach r s' n calls answers (begins code e arg n (world store calls answers))
  event_begins r s' store' k xs ops bs u d some given f g h =
      subst (Reach r s' n calls answers)
      (sym (lands (first (program_of code) e) store store' goes_on n calls answers u d
      ∙ ap (λ (o : Option ℕ). starts_at code o (event_arguments e arg) n (world store' calls answers)) some
      ∙ ap (λ (ys : List meaning.Operand). starts code.classes (function_at code k) k ys [] [] n (world store' calls answers)) (sym given)
      ∙ ap (λ (os : List Operand). starts code.classes (function_at code k) k (map shown xs) (map shown os) [] n (world store' calls answers)) (sym f)
      ∙ ap (λ (bs : List Back). starts code.classes (function_at code k) k (map shown xs) (map shown ops) (map back bs) n (world store' calls answers)) (sym g)))
      h

-- Start makes the globals of these types and the inputs
pub start_first : (code : Code) (e : Entry) (cs : List Class) (gs : List VarType) (is : List Input) (r : Result (Unit {0}) changes.Fault) (store store' : Store) →
    e ≡ entry.Start → cs ≡ code.classes → gs ≡ code.globals → is ≡ code.inputs →
    Does (begin (program cs gs is)) r store store' → Does (first (program_of code) e) r store store'
start_first code e cs gs is r store store' start classes_same globals_same inputs_same d =
    subst (λ (e : Entry). Does (first (program_of code) e) r store store') (sym start)
    (subst (λ (cs : List Class). Does (begin (program cs code.globals code.inputs)) r store store') classes_same
    (subst (λ (gs : List VarType). Does (begin (program cs gs code.inputs)) r store store') globals_same
    (subst (λ (is : List Input). Does (begin (program cs gs is)) r store store') inputs_same d)))

-- an event that has begun, and its run
pub runs_so : {W : Type 0} (may : W → HostCall → Answer → W → Type 0) (code : Code) (e : Entry) (arg arg' : ℤ) (n n' : ℕ) (store : Store) (s : State) (w w' : W) (r : Result End OutOfMemory) (end : Store) →
    arg' ≡ arg → ((n : ℕ) (calls : List HostCall) (answers : List Answer) → begins code e arg' n (world store calls answers) ≡ on s n calls answers) →
    IfOk r (λ x. Run may code (λ answers. on s n [] answers) w w' (over (as_ended x) end n')) →
    IfOk r (λ x. Ends may code e arg store n w w' x end n')
runs_so may code e arg arg' n n' store s w w' (Ok x) end same begun run = run_from may code (λ answers. begins code e arg n (world store [] answers)) (λ answers. on s n [] answers) w w' (over (as_ended x) end n') (λ answers. ap (λ (a : ℤ). begins code e a n (world store [] answers)) (sym same) ∙ begun n [] answers) run
runs_so may code e arg arg' n n' store s w w' (Err x) end same begun run = tt

-- an event that has ended at once
pub ends_at_once : {W : Type 0} (may : W → HostCall → Answer → W → Type 0) (code : Code) (e : Entry) (arg arg' : ℤ) (n : ℕ) (store end : Store) (x : End) (w : W) →
    arg' ≡ arg → ((n : ℕ) (calls : List HostCall) (answers : List Answer) → begins code e arg' n (world store calls answers) ≡ over (as_ended x) end n calls answers) →
    Ends may code e arg store n w w x end n
ends_at_once may code e arg arg' n store end x w same begun = run_over may code (λ answers. begins code e arg n (world store [] answers)) w (over (as_ended x) end n) (λ answers. ap (λ (a : ℤ). begins code e a n (world store [] answers)) (sym same) ∙ begun n [] answers)
