use Rattle.std.specs.Prelude.{◌≡◌, take, map}
use Rattle.mql_meaning.specs.ArrayFunctions.{zeroed}
use Rattle.native_arrays.proofs.zeroing.+zeroing.Given as goal

abbrev pub invariant-zeroed_each-loop-cell : goal.invariant-zeroed_each-loop-cell
invariant-zeroed_each-loop-cell l = l.new ≡ map zeroed (take l.cell-index l.cells)
