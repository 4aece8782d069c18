use Rattle.std.specs.Prelude.{◌≡◌, drop}
use Rattle.mql_meaning.specs.Frames.{input_value}
use Rattle.stack_begins.proofs.inputs.input_value.Given as goal

abbrev pub invariant-loop-one : goal.invariant-loop-one
invariant-loop-one l = input_value l.set l.input ≡ input_value (drop l.one-index l.set) l.input
