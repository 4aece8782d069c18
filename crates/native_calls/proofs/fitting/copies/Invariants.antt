use Rattle.std.specs.Prelude.{◌≡◌, take}
use Rattle.native_calls.proofs.fitting.copies.Given as goal

abbrev pub invariant-loop-value : goal.invariant-loop-value
invariant-loop-value l = l.copies ≡ take l.value-index l.values
