use Rattle.account.specs.Deals.{total}
use Rattle.account.proofs.Amounts.{joined}
use Rattle.positions.specs.Money.{event_net}
use Rattle.positions.proofs.money.balance_with.Goals as goal

pub returns : goal.returns
returns c = joined c.args.balance (total event_net c.args.events.now) c.nets.result c.wrapped_sum.result c.requires.fits c.nets.ensures c.wrapped_sum.ensures
