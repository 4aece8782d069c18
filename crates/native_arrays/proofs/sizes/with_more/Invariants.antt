use Rattle.std.specs.Prelude.{◌≡◌, ◌++◌, replicate}
use Rattle.native_arrays.proofs.sizes.with_more.Given as goal

abbrev pub invariant-loop-i : goal.invariant-loop-i
invariant-loop-i l = l.items ≡ l.fn.items ++ replicate l.i l.cell
