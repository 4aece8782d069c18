use Rattle.std.specs.Prelude.{◌≡◌, ◌++◌, drop}
use Rattle.native_arrays.specs.Lists.{leaves_of}
use Rattle.native_arrays.proofs.elements.+leaves.Given as goal

abbrev pub invariant-leaves_of-loop-item : goal.invariant-leaves_of-loop-item
invariant-leaves_of-loop-item l = l.all ++ leaves_of (drop l.item-index l.items) ≡ leaves_of l.items
