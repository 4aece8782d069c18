use Rattle.natives.proofs.StructureFields.{by_field}
use Rattle.natives.proofs.field.structures_have_fields.Goals as goal

pub returns : goal.returns
returns c = by_field
