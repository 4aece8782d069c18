use Rattle.std.specs.Prelude.{length}
use Rattle.stack_machine.proofs.events.clear.Given as goal

abbrev pub decreases-loop-item : goal.decreases-loop-item
decreases-loop-item g l = length l.stack
