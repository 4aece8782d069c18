use Rattle.std.proofs.Common.{length}
use Rattle.account.specs.StopOut.{side_margin}
use Rattle.account.proofs.Amounts.{IsSum}
use Rattle.account.proofs.margins.side_margin.Given as goal

abbrev pub invariant-loop-position : goal.invariant-loop-position
invariant-loop-position l =
    IsSum l.sum (side_margin l.spec.specs l.spec.leverage l.rest l.buy l.symbol)
    (side_margin l.spec.specs l.spec.leverage l.fn.positions l.buy l.symbol)

abbrev pub decreases-loop-position : goal.decreases-loop-position
decreases-loop-position l = length l.rest
