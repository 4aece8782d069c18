use Rattle.std.specs.Prelude.{◌≡◌, take}
use Rattle.stack_emission.specs.Functions.{placed}
use Rattle.stack_emission.proofs.functions.placed.Given as goal

abbrev pub invariant-loop-label : goal.invariant-loop-label
invariant-loop-label l = l.list ≡ placed (take l.label-index l.labels)
