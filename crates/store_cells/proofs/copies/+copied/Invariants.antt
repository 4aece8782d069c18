use Rattle.std.specs.Prelude.{◌≡◌, take}
use Rattle.store_cells.proofs.copies.+copied.Given as goal

abbrev pub invariant-copied_all-loop-cell : goal.invariant-copied_all-loop-cell
invariant-copied_all-loop-cell l = l.copies ≡ take l.cell-index l.cells
