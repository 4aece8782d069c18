use Rattle.std.specs.Prelude.{◌≡◌, drop}
use Rattle.mql_meaning.specs.ArrayFunctions.{numbers}
use Rattle.native_arrays.proofs.Listed.{before}
use Rattle.native_arrays.proofs.leaf_numbers.numbers.Given as goal

abbrev pub invariant-loop-cell : goal.invariant-loop-cell
invariant-loop-cell l = before l.all (numbers (drop l.cell-index l.cells)) ≡ numbers l.cells
