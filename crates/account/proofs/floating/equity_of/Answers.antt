use Rattle.account.specs.Deals.{total}
use Rattle.account.specs.StopOut.{floating}
use Rattle.account.proofs.Amounts.{joined}
use Rattle.account.proofs.floating.equity_of.Goals as goal

pub returns : goal.returns
returns c = joined c.args.balance (total (floating c.args.specs.now c.args.prices.now) c.args.positions.now) c.floating_sum.result c.wrapped_sum.result c.requires.fits c.floating_sum.ensures c.wrapped_sum.ensures
