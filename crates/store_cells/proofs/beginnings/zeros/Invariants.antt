use Rattle.std.specs.Prelude.{◌≡◌, map, take}
use Rattle.mql_meaning.specs.Cells.{zero_of}
use Rattle.store_cells.proofs.beginnings.zeros.Given as goal

abbrev pub invariant-loop-t : goal.invariant-loop-t
invariant-loop-t l = l.cells ≡ map (zero_of l.classes) (take l.t-index l.types)
