use Rattle.natives.proofs.SuppliedNames.{by_spelling}
use Rattle.natives.proofs.supplied.supplieds_by_spelling.Goals as goal

pub returns : goal.returns
returns c = by_spelling
