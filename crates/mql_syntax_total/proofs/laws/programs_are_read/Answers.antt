use Rattle.mql_syntax_total.proofs.Read.{programs_are_read}
use Rattle.mql_syntax_total.proofs.laws.programs_are_read.Goals as goal

pub returns : goal.returns
returns c = programs_are_read
