use Rattle.std.specs.Prelude.{◌≡◌, take}
use Rattle.stack_begins.proofs.inputs.copied.Given as goal

abbrev pub invariant-loop-input : goal.invariant-loop-input
invariant-loop-input l = l.copies ≡ take l.input-index l.set
