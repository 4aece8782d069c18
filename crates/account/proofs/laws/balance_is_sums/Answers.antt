use Rattle.account.proofs.Conserved.{balance-is}
use Rattle.account.proofs.laws.balance_is_sums.Goals as goal

pub returns : goal.returns
returns c = balance-is
