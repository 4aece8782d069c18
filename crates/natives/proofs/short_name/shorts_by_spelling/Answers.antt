use Rattle.natives.proofs.ShortNames.{by_spelling}
use Rattle.natives.proofs.short_name.shorts_by_spelling.Goals as goal

pub returns : goal.returns
returns c = by_spelling
