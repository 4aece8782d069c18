use Rattle.account.proofs.Conserved.{volume-is}
use Rattle.account.proofs.laws.volumes_are_sums.Goals as goal

pub returns : goal.returns
returns c = volume-is
