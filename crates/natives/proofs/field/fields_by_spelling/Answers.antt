use Rattle.natives.proofs.FieldNames.{by_spelling}
use Rattle.natives.proofs.field.fields_by_spelling.Goals as goal

pub returns : goal.returns
returns c = by_spelling
