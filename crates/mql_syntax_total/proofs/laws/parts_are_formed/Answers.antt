use Rattle.mql_syntax_total.proofs.Read.{items_are_formed, parts_formed}
use Rattle.mql_syntax_total.proofs.laws.parts_are_formed.Goals as goal

pub returns : goal.returns
returns c = record { items = items_are_formed; parts = parts_formed }
