use Rattle.natives.proofs.NativeNames.{by_spelling}
use Rattle.natives.proofs.native.natives_by_spelling.Goals as goal

pub returns : goal.returns
returns c = by_spelling
