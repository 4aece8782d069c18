use Rattle.natives.proofs.Numbers.{by_name}
use Rattle.natives.proofs.short_name.named_by_spelling.Goals as goal

pub returns : goal.returns
returns c = by_name
