use Rattle.natives.proofs.Numbers.{by_number}
use Rattle.natives.proofs.native.natives_by_number.Goals as goal

pub returns : goal.returns
returns c = by_number
