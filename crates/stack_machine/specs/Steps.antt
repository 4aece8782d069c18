-- What the machine's code does: one instruction, and a whole run, over any world.
use Rattle.std.specs.Prelude.{◌≡◌, ◌+◌, ℕ, ℤ, List, [], ◌++◌, map, None, Some, Result, Ok, Err}
use Rattle.mql_mean.specs.declared.host.HostCall.{HostCall}
use Rattle.mql_mean.specs.Answer.{Answer}
use Rattle.mql_meaning.specs.declared.store.Store.{Store}
use Rattle.mql_meaning.specs.declared.tree.Entry.{Entry}
use Rattle.mql_meaning.specs.declared.tree.Function.{Function}
use Rattle.mql_meaning.specs.Changes.{Ended}
use Rattle.mql_meaning.specs.Runs.{world}
use Rattle.store_frames.specs.Operands.{shown}
use Rattle.stack_code.specs.declared.code.Code.{Code}
use Rattle.stack_code.specs.declared.code.FunctionCode.{FunctionCode}
use Rattle.stack_code.specs.declared.code.Instruction.{Instruction}
use Rattle.stack_code.specs.Machine as machine
use Rattle.stack_code.specs.Machine.{Next, On, Halt, act, advance, Comes, Gives}
use Rattle.stack_world.specs.Turns.{Over}
use Rattle.stack_machine.specs.declared.ends.End.{End}
use Rattle.stack_machine.specs.declared.ends.Fault.{Fault}
use Rattle.stack_machine.specs.declared.ends.Fault.TheVariants as fault
use Rattle.stack_machine.specs.declared.state.Back.{Back}
use Rattle.stack_machine.specs.declared.state.State.{State}
use Rattle.stack_machine.specs.Ends.{as_ended}

-- a function of which a call looks at no more than at this: without its name, its result and its body
abbrev pub bare : FunctionCode → Function
bare c =
    record {
      name = [];
      class = c.class;
      makes = c.makes;
      lent = c.lent;
      locals = c.locals;
      result = None;
      body = [];
    }

-- where a return leads
abbrev pub back : Back → machine.Back
back b = record { function = b.function; place = b.place }

-- a running machine, with steps left, after these calls to the world and before these answers
abbrev pub on : State → ℕ → List HostCall → List Answer → Next
on s n calls answers =
    On s.function s.place (map shown s.operands) (map back s.backs) n (world s.store calls answers)

-- a machine that has ended
abbrev pub over : Ended → Store → ℕ → List HostCall → List Answer → Next
over e store n calls answers = Halt e n (world store calls answers)

-- where the code says that the machine is; want of memory says nothing
abbrev pub Reach : {A : Type 0} → Result A Fault → State → ℕ → List HostCall → List Answer → Next → Type 0
Reach (Ok a) s n calls answers x = x ≡ on s n calls answers
Reach (Err (fault.End e)) s n calls answers x = x ≡ over (as_ended e) s.store n calls answers
Reach (Err fault.OutOfMemory) s n calls answers x = Unit {0}

-- an instruction that asks the world nothing
abbrev pub Acts : {A : Type 0} → Code → Instruction → State → ℕ → Result A Fault → State → ℕ → Type 0
Acts code i s n r s' n' =
    (calls : List HostCall) (answers : List Answer) → Reach r s' n' calls answers
    (act code (Some i) s.function s.place (map shown s.operands) (map back s.backs) n
    (world s.store calls answers))

-- one instruction leads to a state, whatever answers are left beside those that it got
abbrev pub Stepped : {W : Type 0} → (W → HostCall → Answer → W → Type 0) → Code → State → ℕ → W → W
    → (List HostCall → List Answer → Next) → Type 0
Stepped may code s n w w' to =
    Over may w w' (λ made got. (calls : List HostCall) (rest : List Answer)
    → advance code (on s n calls (got ++ rest)) ≡ to (calls ++ made) rest)

-- one instruction, as its code answers
abbrev pub Steps : {W A : Type 0} → (W → HostCall → Answer → W → Type 0) → Code → State → ℕ → W
    → Result A Fault → State → ℕ → W → Type 0
Steps may code s n w (Ok a) s' n' w' = Stepped may code s n w w' (on s' n')
Steps may code s n w (Err (fault.End e)) s' n' w' = Stepped may code s n w w' (over (as_ended e) s'.store n')
Steps may code s n w (Err fault.OutOfMemory) s' n' w' = Unit {0}

-- a run comes to a state, whatever answers are left beside those that it got
abbrev pub Run : {W : Type 0} → (W → HostCall → Answer → W → Type 0) → Code → (List Answer → Next) → W → W
    → (List HostCall → List Answer → Next) → Type 0
Run may code from w w' to =
    Over may w w' (λ made got. (rest : List Answer) → Comes code (from (got ++ rest)) (to made rest))

-- an event, from a store and steps, over the world's answers, comes to this end, store and steps left
abbrev pub Ends : {W : Type 0} → (W → HostCall → Answer → W → Type 0) → Code → Entry → ℤ → Store → ℕ → W → W
    → End → Store → ℕ → Type 0
Ends may code entry arg store n w w' e store' n' =
    Over may w w' (λ made got. (rest : List Answer)
    → Gives code entry arg n (world store [] (got ++ rest))
    (record { ended = as_ended e; left = n'; world = world store' made rest }))

-- after an instruction that goes on, the next place of the function in force, and calls that return to the
-- same places
abbrev pub Follows : {A : Type 0} → Result A Fault → State → State → Type 0
Follows (Ok a) s s' = (s'.function ≡ s.function) × (s'.place ≡ s.place + 1) × (s'.backs ≡ s.backs)
Follows (Err e) s s' = Unit {0}
