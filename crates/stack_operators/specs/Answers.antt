-- What calls answer that give operands.
use Rattle.std.specs.Prelude.{Result, Ok, Err}
use Rattle.mql_meaning.specs.Operands as meaning
use Rattle.store_cells.specs.declared.fault.Fault.{Fault}
use Rattle.store_frames.specs.declared.operand.Operand.{Operand}
use Rattle.store_frames.specs.Operands.{shown}

-- an answer with the operand of the meaning
abbrev pub answered : Result Operand Fault → Result meaning.Operand Fault
answered (Ok x) = Ok (shown x)
answered (Err f) = Err f
