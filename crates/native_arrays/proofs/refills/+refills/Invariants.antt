use Rattle.std.specs.Prelude.{◌≡◌, ◌++◌, drop}
use Rattle.native_arrays.specs.Lists.{refilled_each}
use Rattle.native_arrays.proofs.refills.+refills.Given as goal

abbrev pub invariant-refilled_each-loop-item : goal.invariant-refilled_each-loop-item
invariant-refilled_each-loop-item l =
    l.new ++ refilled_each (drop l.item-index l.items) l.rest ≡ refilled_each l.items l.leaves
