-- How much is left to a run of paced code (own).
use Rattle.std.specs.Prelude.{◌<◌, ◌+◌, ◌-◌, ◌*◌, ℕ, zero, suc, Bool, true, false, List, [], ◌∷◌, length, Option, Some, None, Result, Ok, Err}
use Rattle.stack_code.specs.declared.code.Code.{Code}
use Rattle.stack_code.specs.declared.code.FunctionCode.{FunctionCode}
use Rattle.stack_code.specs.declared.code.Instruction.{Instruction}
use Rattle.stack_code.specs.declared.code.Instruction.TheVariants as instruction
use Rattle.stack_code.specs.Machine.{Back, Next, On, Halt, fetch}
use Rattle.stack_machine.specs.declared.ends.Fault.{Fault}
use Rattle.stack_machine.specs.declared.state.State.{State}
use Rattle.stack_machine.specs.Steps.{on}

-- the instructions of functions
abbrev pub total : List FunctionCode → ℕ
total [] = 0
total (c ∷ cs) = length c.instructions + total cs

-- so many instructions that follow a place, at most, and those that follow the places to which calls return
abbrev pub behind : ℕ → ℕ → ℕ
behind longest place = longest + 1 - place

abbrev pub behind_all : ℕ → List Back → ℕ
behind_all longest [] = 0
behind_all longest (b ∷ backs) = behind longest b.place + behind_all longest backs

abbrev pub is_step : Option Instruction → Bool
is_step None = false
is_step (Some instruction.Step) = true
is_step (Some (instruction.Plain e)) = false
is_step (Some (instruction.Jump label)) = false
is_step (Some (instruction.Unless label)) = false
is_step (Some (instruction.Call f)) = false
is_step (Some (instruction.Native f c)) = false
is_step (Some instruction.Return) = false

-- steps of a width, and more; a place at a step counts as if its step were spent
abbrev pub rank : Bool → ℕ → ℕ → ℕ → ℕ
rank true zero width more = 0
rank true (suc n) width more = n * width + more
rank false n width more = n * width + more

-- at most so many instructions are left to a run of such code
abbrev pub left : Code → Next → ℕ
left code (On k place ops backs n w) =
    rank (is_step (fetch code k place)) n (total code.functions + 2)
    (behind (total code.functions) place + behind_all (total code.functions) backs)
left code (Halt e n w) = 0

-- an instruction that goes on brings the end nearer
abbrev pub Nearer : {A : Type 0} → Code → Result A Fault → State → ℕ → State → ℕ → Type 0
Nearer code (Ok a) s n s' n' = left code (on s' n' [] []) < left code (on s n [] [])
Nearer code (Err e) s n s' n' = Unit {0}
