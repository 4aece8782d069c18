use Rattle.std.proofs.Common.{◌≡◌, ◌++◌, length}
use Rattle.positions.proofs.money.copy_positions.Given as goal

abbrev pub invariant-loop-position : goal.invariant-loop-position
invariant-loop-position l = l.copy.items ++ l.rest ≡ l.fn.positions

abbrev pub decreases-loop-position : goal.decreases-loop-position
decreases-loop-position l = length l.rest
