use Rattle.mql_spelling.proofs.Powers.{no_fit_20}
use Rattle.mql_spelling.proofs.real.shifted.Goals as goal

pub returns-then-up-eq20 : goal.returns-then-up-eq20
returns-then-up-eq20 c = λ e h. no_fit_20 c.args.value c.args.up e c.if-value-eq0.false c.if-up-eq20.true h
