use Rattle.std.proofs.Common.{◌-◌}
use Rattle.fx8.proofs.Roots.{IsBetween}
use Rattle.fx8.proofs.root.root.Given as goal

abbrev pub invariant-loop-above : goal.invariant-loop-above
invariant-loop-above l = IsBetween l.n l.low l.above

abbrev pub decreases-loop-above : goal.decreases-loop-above
decreases-loop-above l = l.above - l.low
