use Rattle.std.proofs.Common.{◌≡◌, ◌++◌, ◌≤◌, length}
use Rattle.account.specs.Firing.{stopped_positions}
use Rattle.positions.proofs.acts.fired_of.Given as goal

abbrev pub invariant-loop-position : goal.invariant-loop-position
invariant-loop-position l = (l.out.items ++ stopped_positions l.quote l.rest ≡ l.fn.out.items ++ stopped_positions l.quote l.fn.positions) × (length l.rest ≤ l.out.spare)

abbrev pub decreases-loop-position : goal.decreases-loop-position
decreases-loop-position l = length l.rest
