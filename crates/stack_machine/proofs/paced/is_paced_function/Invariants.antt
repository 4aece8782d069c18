use Rattle.std.proofs.Common.{ℕ, ◌<◌}
use Rattle.stack_code.specs.Paced.{PacedAt}
use Rattle.stack_machine.proofs.paced.is_paced_function.Given as goal

abbrev pub invariant-loop-place : goal.invariant-loop-place
invariant-loop-place l = (p : ℕ) → p < l.place → PacedAt l.function p
