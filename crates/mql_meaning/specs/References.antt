-- Reference arguments: what stands at places, and what is put there (MQL5 Reference, Passing Parameters).
use Rattle.std.specs.Prelude.{List, ◌∷◌}
use Rattle.mql_mean.specs.declared.value.Value.{Value}
use Rattle.mql_meaning.specs.declared.cell.Cell.{Cell}
use Rattle.mql_meaning.specs.declared.place.Place.{Place}
use Rattle.mql_meaning.specs.Changes.{Change, ◌>>=◌, give, for_each}
use Rattle.mql_meaning.specs.Places.{cell_at, replace, pointer_of}
use Rattle.mql_meaning.specs.Objects.{living, status_of}
use Rattle.mql_meaning.specs.Operands.{Operand, on_one, a_value, a_place}
use Rattle.mql_meaning.specs.Natives.{whole}

-- the cells at places, in order
abbrev pub cells_at : List Place → Change (List Cell)
cells_at ps = for_each cell_at ps

-- cells stand at places, one after another; the places of which there are no new cells stay
abbrev pub put_at : List Place → List Cell → List Cell → Change (Unit {0})
put_at (p ∷ ps) (old ∷ olds) (new ∷ news) = replace p old new >>= λ _. put_at ps olds news
put_at _ _ _ = give tt

-- GetPointer: the pointer to the object at a place
abbrev pub points : List Operand → Change Value
points xs = on_one (λ x. a_place x >>= pointer_of) xs

-- CheckPointer: what a pointer is
abbrev pub tells_status : List Operand → Change Value
tells_status xs = on_one (λ x. a_value x >>= λ v. living v >>= λ o. give (whole (status_of o))) xs
