-- Elements of several cells, one after another.
use Rattle.std.specs.Prelude.{ℕ, List, [], ◌∷◌, Bool, ◌++◌, length, take, drop}
use Rattle.mql_meaning.specs.declared.cell.Cell.{Cell}
use Rattle.mql_meaning.specs.ArrayFunctions.{ArrayParts, leaves, refilled}

-- the elements of cells
abbrev pub leaves_of : List Cell → List Cell
leaves_of [] = []
leaves_of (c ∷ cs) = leaves c ++ leaves_of cs

-- cells with other elements, as many as they have
abbrev pub refilled_each : List Cell → List Cell → List Cell
refilled_each [] ls = []
refilled_each (c ∷ cs) ls =
    refilled c (take (length (leaves c)) ls) ∷ refilled_each cs (drop (length (leaves c)) ls)

-- an array of a unit and elements, with its flags
abbrev pub parts : Bool → Bool → List Cell → List Cell → ArrayParts
parts dynamic series unit cs = record { dynamic = dynamic; series = series; unit = unit; cells = cs }
