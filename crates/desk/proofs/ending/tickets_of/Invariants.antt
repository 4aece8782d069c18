use Rattle.std.proofs.Common.{◌≡◌, ◌++◌, map, length}
use Rattle.account.specs.Positions.{position_ticket}
use Rattle.desk.proofs.ending.tickets_of.Given as goal

abbrev pub invariant-loop-position : goal.invariant-loop-position
invariant-loop-position l = l.out.items ++ map position_ticket l.rest ≡ map position_ticket l.fn.positions

abbrev pub decreases-loop-position : goal.decreases-loop-position
decreases-loop-position l = length l.rest
