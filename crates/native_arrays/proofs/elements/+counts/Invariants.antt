use Rattle.std.specs.Prelude.{◌≡◌, ◌+◌, drop, length}
use Rattle.native_arrays.specs.Lists.{leaves_of}
use Rattle.native_arrays.proofs.elements.+counts.Given as goal

abbrev pub invariant-leaf_total-loop-item : goal.invariant-leaf_total-loop-item
invariant-leaf_total-loop-item l = l.all + length (leaves_of (drop l.item-index l.items)) ≡ length (leaves_of l.items)
