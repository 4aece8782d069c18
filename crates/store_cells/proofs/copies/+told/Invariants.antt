use Rattle.std.specs.Prelude.{◌≡◌, take, map}
use Rattle.mql_meaning.specs.Cells.{told}
use Rattle.store_cells.proofs.copies.+told.Given as goal

abbrev pub invariant-told_all-loop-cell : goal.invariant-told_all-loop-cell
invariant-told_all-loop-cell l = l.values ≡ map told (take l.cell-index l.cells)
