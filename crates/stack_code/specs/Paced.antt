-- Code that spends steps: nothing goes on for ever without one (own).
use Rattle.std.specs.Prelude.{◌≡◌, ◌≤◌, ℕ, Option, Some, None, slice_get}
use Rattle.stack_code.specs.declared.code.Code.{Code}
use Rattle.stack_code.specs.declared.code.FunctionCode.{FunctionCode}
use Rattle.stack_code.specs.declared.code.Instruction.{Instruction}
use Rattle.stack_code.specs.declared.code.Instruction.TheVariants as instruction
use Rattle.mql_meaning.specs.Changes.{then_some}
use Rattle.stack_code.specs.Machine.{function_at, place_of}

-- the label to which an instruction may jump
abbrev pub jumps_to : Instruction → Option ℕ
jumps_to (instruction.Jump label) = Some label
jumps_to (instruction.Unless label) = Some label
jumps_to _ = None

-- the place to which the instruction at a place may jump
abbrev pub jump_at : FunctionCode → ℕ → Option ℕ
jump_at c place =
    then_some (slice_get c.instructions place)
    (λ i. then_some (jumps_to i) (λ label. then_some (slice_get c.labels label) place_of))

-- where the instruction at a place jumps to no later place, it jumps to a step
abbrev pub PacedAt : FunctionCode → ℕ → Type 0
PacedAt c place =
    (to : ℕ) → jump_at c place ≡ Some to → to ≤ place → slice_get c.instructions to ≡ Some instruction.Step

-- a function begins with a step, and jumps to later places or to steps
pub record PacedFunction (c : FunctionCode) : Type 0 where
  pub begins : slice_get c.instructions 0 ≡ Some instruction.Step
  pub jumps : (place : ℕ) → PacedAt c place

pub record Paced (code : Code) : Type 0 where
  pub functions : (k : ℕ) (c : FunctionCode) → function_at code k ≡ Some c → PacedFunction c
