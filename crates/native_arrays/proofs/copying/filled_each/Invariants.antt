use Rattle.std.specs.Prelude.{◌≡◌, drop}
use Rattle.mql_meaning.specs.declared.cell.Cell.{Cell}
use Rattle.mql_meaning.specs.Changes.{for_each}
use Rattle.mql_meaning.specs.ArrayFunctions.{put_number}
use Rattle.native_arrays.specs.Runs.{ahead}
use Rattle.native_arrays.proofs.copying.filled_each.Given as goal

abbrev pub invariant-loop-cell : goal.invariant-loop-cell
invariant-loop-cell l =
    for_each (λ (c : Cell). put_number c l.value) l.cells l.store
    ≡ ahead l.new (for_each (λ (c : Cell). put_number c l.value) (drop l.cell-index l.cells) l.store)
