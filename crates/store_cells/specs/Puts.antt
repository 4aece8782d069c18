-- Lists of cells that get values.
use Rattle.std.specs.Prelude.{List, [], ◌∷◌, ◌++◌, Option, Some, None}
use Rattle.mql_mean.specs.declared.value.Value.{Value}
use Rattle.mql_meaning.specs.declared.cell.Cell.{Cell}
use Rattle.mql_meaning.specs.Changes.{then_some}
use Rattle.mql_meaning.specs.Cells.{put}

-- cells that get a value each; there are as many of both
abbrev pub put_each : List Cell → List Value → Option (List Cell)
put_each [] [] = Some []
put_each [] (v ∷ vs) = None
put_each (c ∷ cs) [] = None
put_each (c ∷ cs) (v ∷ vs) = then_some (put c v) (λ d. then_some (put_each cs vs) (λ ds. Some (d ∷ ds)))

-- an element as it begins that gets a value
abbrev pub put_unit : List Cell → Value → Option Cell
put_unit [] v = None
put_unit (c ∷ cs) v = put c v

-- cells before others
abbrev pub ahead : List Cell → Option (List Cell) → Option (List Cell)
ahead cs more = then_some more (λ ds. Some (cs ++ ds))
