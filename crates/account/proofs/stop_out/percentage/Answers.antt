use Rattle.account.proofs.Choice.{percentage_is}
use Rattle.account.proofs.stop_out.percentage.Goals as goal

pub returns : goal.returns
returns c = percentage_is c.args.amount c.args.percent
