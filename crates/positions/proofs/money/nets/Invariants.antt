use Rattle.std.proofs.Common.{length, FitsSigned}
use Rattle.std.specs.List.{All}
use Rattle.std.specs.Int.{w128}
use Rattle.account.specs.Deals.{total}
use Rattle.account.proofs.Amounts.{IsSum}
use Rattle.positions.specs.Money.{event_net}
use Rattle.positions.proofs.money.nets.Given as goal

abbrev pub invariant-loop-event : goal.invariant-loop-event
invariant-loop-event l = IsSum l.sum (total event_net l.rest) (total event_net l.fn.events) × All (λ e. FitsSigned w128 (event_net e)) l.rest

abbrev pub decreases-loop-event : goal.decreases-loop-event
decreases-loop-event l = length l.rest
