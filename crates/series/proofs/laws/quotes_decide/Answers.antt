use Rattle.series.proofs.Standing.{same_bars}
use Rattle.series.proofs.laws.quotes_decide.Goals as goal

pub returns : goal.returns
returns c = same_bars
