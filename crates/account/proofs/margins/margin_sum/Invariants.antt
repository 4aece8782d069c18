use Rattle.std.proofs.Common.{length}
use Rattle.account.specs.Deals.{total}
use Rattle.account.specs.StopOut.{position_margin}
use Rattle.account.proofs.Amounts.{IsSum}
use Rattle.account.proofs.margins.margin_sum.Given as goal

abbrev pub invariant-loop-position : goal.invariant-loop-position
invariant-loop-position l = IsSum l.sum (total (position_margin l.spec.specs l.spec.leverage) l.rest) (total (position_margin l.spec.specs l.spec.leverage) l.fn.positions)

abbrev pub decreases-loop-position : goal.decreases-loop-position
decreases-loop-position l = length l.rest
