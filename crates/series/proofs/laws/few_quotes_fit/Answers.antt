use Rattle.series.proofs.Few.{few_fit}
use Rattle.series.proofs.laws.few_quotes_fit.Goals as goal

pub returns : goal.returns
returns c = few_fit
