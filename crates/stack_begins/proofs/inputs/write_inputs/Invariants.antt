use Rattle.std.specs.Prelude.{◌≡◌, drop}
use Rattle.mql_meaning.specs.Frames.{write_inputs}
use Rattle.stack_begins.proofs.inputs.write_inputs.Given as goal

abbrev pub invariant-loop-input : goal.invariant-loop-input
invariant-loop-input l = write_inputs l.set l.inputs l.fn.store ≡ write_inputs l.set (drop l.input-index l.inputs) l.store
