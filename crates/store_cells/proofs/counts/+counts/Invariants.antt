use Rattle.std.specs.Prelude.{◌≡◌, ◌+◌, drop}
use Rattle.mql_meaning.specs.Cells.{total}
use Rattle.store_cells.proofs.counts.+counts.Given as goal

abbrev pub invariant-total-loop-cell : goal.invariant-total-loop-cell
invariant-total-loop-cell l = l.all + total (drop l.cell-index l.cells) ≡ total l.cells
