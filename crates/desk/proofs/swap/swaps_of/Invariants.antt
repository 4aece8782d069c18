use Rattle.std.proofs.Common.{◌≡◌, ◌++◌, map, length}
use Rattle.desk.specs.Nights.{swap_events, accrual}
use Rattle.desk.proofs.swap.swaps_of.Given as goal

abbrev pub invariant-loop-position : goal.invariant-loop-position
invariant-loop-position l = map accrual l.out.items ++ swap_events l.spec l.place l.nights l.rest ≡ swap_events l.spec l.place l.nights l.fn.positions

abbrev pub decreases-loop-position : goal.decreases-loop-position
decreases-loop-position l = length l.rest
