use Rattle.mql_spelling.proofs.Signs.{by_spelling}
use Rattle.mql_spelling.proofs.sign.signs_by_spelling.Goals as goal

pub returns : goal.returns
returns c = by_spelling
