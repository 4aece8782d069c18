use Rattle.std.specs.Prelude.{length}
use Rattle.store_cells.proofs.beginnings.+array.Given as goal

abbrev pub decreases-array : goal.decreases-array
decreases-array l = length l.dimensions.now
