use Rattle.mql_spelling.proofs.ReservedWords.{by_spelling}
use Rattle.mql_spelling.proofs.reserved.words_by_spelling.Goals as goal

pub returns : goal.returns
returns c = by_spelling
