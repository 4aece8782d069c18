use Rattle.natives.proofs.PredefinedNames.{by_spelling}
use Rattle.natives.proofs.predefined.predefineds_by_spelling.Goals as goal

pub returns : goal.returns
returns c = by_spelling
