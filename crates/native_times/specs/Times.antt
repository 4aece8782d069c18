-- Parts of what native functions of times do.
use Rattle.std.specs.Prelude.{ℕ, ℤ, pos, negsuc, true, [], ◌∷◌, map, Option, Some, None}
use Rattle.mql_mean.specs.declared.value.Value.{Value}
use Rattle.mql_mean.specs.declared.value.Value.TheVariants as value
use Rattle.mql_meaning.specs.declared.cell.Cell.{Cell}
use Rattle.mql_meaning.specs.Changes.{Change, ◌>>=◌, the, then_some}
use Rattle.mql_meaning.specs.Cells.{put}
use Rattle.mql_meaning.specs.Places.{number_of}
use Rattle.mql_meaning.specs.Natives.{NativeDone, gives_with, time_fields, truth_value, whole}

-- a cell gets the fields of a second
abbrev pub becomes_fields : ℕ → Cell → Change NativeDone
becomes_fields second c =
    the (put c (value.Rec (map whole (time_fields second)))) >>= λ d.
    gives_with (d ∷ []) (truth_value true)

-- a number that is not below 0
abbrev pub natural : ℤ → Option ℕ
natural (pos n) = Some n
natural (negsuc n) = None

-- the number of a value that is not below 0
abbrev pub natural_of : Value → Option ℕ
natural_of v = then_some (number_of v) natural
