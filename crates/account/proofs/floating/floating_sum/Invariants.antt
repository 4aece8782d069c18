use Rattle.std.proofs.Common.{length}
use Rattle.std.specs.List.{All}
use Rattle.account.specs.Deals.{total}
use Rattle.account.specs.StopOut.{floating}
use Rattle.account.specs.Ranges.{Floats}
use Rattle.account.proofs.Amounts.{IsSum}
use Rattle.account.proofs.floating.floating_sum.Given as goal

abbrev pub invariant-loop-position : goal.invariant-loop-position
invariant-loop-position l = IsSum l.sum (total (floating l.specs l.prices) l.rest) (total (floating l.specs l.prices) l.fn.positions) × All (Floats l.specs l.prices) l.rest

abbrev pub decreases-loop-position : goal.decreases-loop-position
decreases-loop-position l = length l.rest
