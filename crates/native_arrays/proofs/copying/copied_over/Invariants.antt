use Rattle.std.specs.Prelude.{◌≡◌, drop}
use Rattle.mql_meaning.specs.ArrayFunctions.{copied}
use Rattle.native_arrays.specs.Runs.{ahead}
use Rattle.native_arrays.proofs.copying.copied_over.Given as goal

abbrev pub invariant-loop-cell : goal.invariant-loop-cell
invariant-loop-cell l =
    copied l.cells l.from l.store ≡ ahead l.new (copied (drop l.cell-index l.cells) l.rest l.store)
