use Rattle.natives.proofs.ConstantNames.{by_spelling}
use Rattle.natives.proofs.constant.constants_by_spelling.Goals as goal

pub returns : goal.returns
returns c = by_spelling
