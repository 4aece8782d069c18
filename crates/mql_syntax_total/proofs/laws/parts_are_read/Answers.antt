use Rattle.mql_syntax_total.proofs.Read.{types_are_read, values_are_read, statements_are_read}
use Rattle.mql_syntax_total.proofs.laws.parts_are_read.Goals as goal

pub returns : goal.returns
returns c = record { types = types_are_read; values = values_are_read; statements = statements_are_read }
