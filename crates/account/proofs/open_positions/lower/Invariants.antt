use Rattle.std.proofs.Common.{◌≡◌, ◌+◌, length}
use Rattle.account.specs.Keyed.{lower}
use Rattle.account.specs.Positions.{position_ticket}
use Rattle.account.proofs.open_positions.lower.Given as goal

abbrev pub invariant-loop-position : goal.invariant-loop-position
invariant-loop-position l = (l.count + lower position_ticket l.ticket l.rest ≡ lower position_ticket l.ticket l.fn.positions) × (l.count + length l.rest ≡ length l.fn.positions)

abbrev pub decreases-loop-position : goal.decreases-loop-position
decreases-loop-position l = length l.rest
