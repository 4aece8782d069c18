-- Operands in memory.
use Rattle.mql_meaning.specs.Operands as meaning
use Rattle.store_frames.specs.declared.operand.Operand.{Operand}
use Rattle.store_frames.specs.declared.operand.Operand.TheVariants as code

-- the operand of the meaning
abbrev pub shown : Operand → meaning.Operand
shown (code.Value v) = meaning.Val v
shown (code.Place p) = meaning.At p
