use Rattle.std.proofs.Common.{length}
use Rattle.desk.proofs.FiringLists.{IsBetween}
use Rattle.desk.proofs.fired.push_earlier.Given as goal

abbrev pub invariant-loop-stop : goal.invariant-loop-stop
invariant-loop-stop l = IsBetween l.ticket l.fn.out.items l.out.items l.stops l.rest

abbrev pub decreases-loop-stop : goal.decreases-loop-stop
decreases-loop-stop l = length l.rest
