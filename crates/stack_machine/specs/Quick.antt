-- Instructions on operands that take no memory, on top of those of a running machine.
use Rattle.std.specs.Prelude.{◌≡◌, ◌<◌, ◌≤◌, ℕ, Bool, true, false, List, [], map, Some, Result, Ok, Err}
use Rattle.fx8.specs.declared.out_of_memory.OutOfMemory.{OutOfMemory}
use Rattle.mql_mean.specs.declared.host.HostCall.{HostCall}
use Rattle.mql_mean.specs.Answer.{Answer}
use Rattle.mql_meaning.specs.Runs.{world}
use Rattle.store_frames.specs.Operands.{shown}
use Rattle.stack_code.specs.declared.code.Code.{Code}
use Rattle.stack_code.specs.declared.code.Instruction.{Instruction}
use Rattle.stack_code.specs.Machine.{Next, On, act, Comes}
use Rattle.stack_unboxed.specs.declared.unboxed.Unboxed.{Unboxed}
use Rattle.stack_unboxed.specs.Unboxed.{upon}
use Rattle.stack_machine.specs.declared.state.State.{State}
use Rattle.stack_machine.specs.Pace.{left}
use Rattle.stack_machine.specs.Steps.{back, on}

-- a running machine, with unboxed operands on top of its own
abbrev pub topped : State → List Unboxed → ℕ → List HostCall → List Answer → Next
topped s top n calls answers =
    On s.function s.place (upon top (map shown s.operands)) (map back s.backs) n (world s.store calls answers)

-- nothing was done
abbrev pub Same : State → List Unboxed → ℕ → State → List Unboxed → ℕ → Type 0
Same s top n s' top' n' = (s' ≡ s) × (top' ≡ top) × (n' ≡ n)

-- the whole of an instruction was done, or nothing; want of memory says nothing
abbrev pub Acted : Code → Instruction → Result Bool OutOfMemory → State → List Unboxed → ℕ → State
    → List Unboxed → ℕ → Type 0
Acted code i (Ok true) s top n s' top' n' =
    (calls : List HostCall) (answers : List Answer)
    → act code (Some i) s.function s.place (upon top (map shown s.operands)) (map back s.backs) n
    (world s.store calls answers) ≡ topped s' top' n' calls answers
Acted code i (Ok false) s top n s' top' n' = Same s top n s' top' n'
Acted code i (Err e) s top n s' top' n' = Unit {0}

-- some instructions that ask the world nothing lead from one state to another
abbrev pub Leads : Code → State → List Unboxed → ℕ → State → List Unboxed → ℕ → Type 0
Leads code s top n s' top' n' =
    (calls : List HostCall) (answers : List Answer)
    → Comes code (topped s top n calls answers) (topped s' top' n' calls answers)

-- one instruction was done, which brings the end nearer, or nothing; want of memory says nothing
abbrev pub Went :
    Code → Result Bool OutOfMemory → State → List Unboxed → ℕ → State → List Unboxed → ℕ → Type 0
Went code (Ok true) s top n s' top' n' =
    Leads code s top n s' top' n' × (left code (on s' n' [] []) < left code (on s n [] []))
Went code (Ok false) s top n s' top' n' = Same s top n s' top' n'
Went code (Err e) s top n s' top' n' = Unit {0}

-- some instructions, or none, after which the machine has its own operands alone; the end is no farther
abbrev pub Hurried : Result (Unit {0}) OutOfMemory → Code → State → ℕ → State → List Unboxed → ℕ → Type 0
Hurried (Ok u) code s n s' top' n' =
    Leads code s [] n s' [] n' × (top' ≡ []) × (left code (on s' n' [] []) ≤ left code (on s n [] []))
Hurried (Err e) code s n s' top' n' = Unit {0}
