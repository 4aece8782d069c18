use Rattle.std.specs.Prelude.{◌≡◌, take}
use Rattle.stack_emission.proofs.copies.copy_types.Given as goal

abbrev pub invariant-loop-t : goal.invariant-loop-t
invariant-loop-t l = l.copies ≡ take l.t-index l.types
