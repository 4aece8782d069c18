-- Cells that a change gives, before others.
use Rattle.std.specs.Prelude.{List, [], ◌∷◌, ◌++◌}
use Rattle.mql_meaning.specs.declared.cell.Cell.{Cell}
use Rattle.mql_meaning.specs.Changes.{Change, Out, after, give}
use Rattle.mql_meaning.specs.Cells.{told, put}
use Rattle.mql_meaning.specs.ArrayFunctions.{put_or_number}

-- cells before those that a change gives
abbrev pub ahead : List Cell → Out (List Cell) → Out (List Cell)
ahead cs out = after out (λ ds. give (cs ++ ds))

-- an element that gets the value of the first of others, where there is one
abbrev pub one_copied : Cell → List Cell → Change Cell
one_copied c [] = give c
one_copied c (f ∷ from) = put_or_number c f (put c (told f))
