use Rattle.std.proofs.Common.{◌≡◌, ℕ, ◌<◌, Some}
use Rattle.stack_code.specs.declared.code.FunctionCode.{FunctionCode}
use Rattle.stack_code.specs.Machine.{function_at}
use Rattle.stack_code.specs.Paced.{PacedFunction}
use Rattle.stack_machine.proofs.paced.is_paced.Given as goal

abbrev pub invariant-loop-function : goal.invariant-loop-function
invariant-loop-function l = (k : ℕ) (c : FunctionCode) → k < l.function-index → function_at l.code k ≡ Some c → PacedFunction c
