-- Objects, seen as structures.
use Rattle.std.proofs.Common.{◌≡◌, List, map}
use Rattle.mql_mean.specs.declared.value.Value.TheVariants as value
use Rattle.mql_meaning.specs.declared.cell.Cell.{Cell}
use Rattle.mql_meaning.specs.declared.cell.Cell.TheVariants as cell
use Rattle.mql_meaning.specs.Cells.{told, weight, total}
use Rattle.store_cells.proofs.Rows.{told_structure, weight_structure}

pub told_object : (cs : List Cell) → told (cell.Structure cs) ≡ value.Rec (map told cs)
told_object cs = told_structure cs

pub weight_object : (cs : List Cell) → weight (cell.Structure cs) ≡ total cs
weight_object cs = weight_structure cs
