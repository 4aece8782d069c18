use Rattle.std.specs.Prelude.{◌≡◌, take}
use Rattle.stack_emission.proofs.copies.copy_classes.Given as goal

abbrev pub invariant-loop-class : goal.invariant-loop-class
invariant-loop-class l = l.copies ≡ take l.class-index l.classes
