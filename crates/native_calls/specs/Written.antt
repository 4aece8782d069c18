-- Cells that are put at places, by how many cells those took that stood there.
use Rattle.std.specs.Prelude.{◌≡◌, ℕ, ◌+◌, ◌-◌, List, ◌∷◌, Result, Ok, Err}
use Rattle.mql_meaning.specs.declared.cell.Cell.{Cell}
use Rattle.mql_meaning.specs.declared.place.Place.{Place}
use Rattle.mql_meaning.specs.declared.store.Store.{Store}
use Rattle.mql_meaning.specs.Changes.{Change, ◌>>=◌, ◌>>◌, give, the_store, becomes, Done, Over}
use Rattle.mql_meaning.specs.Cells.{weight}
use Rattle.mql_meaning.specs.Places.{counts, set_base, with_part}
use Rattle.store_cells.specs.declared.fault.End.{End}
use Rattle.store_cells.specs.Changes.{ended}

-- a cell is put at a place where one stood that took so many cells
abbrev pub replace_counted : Place → ℕ → Cell → Change (Unit {0})
replace_counted p old new = do
  store ← the_store
  counts (store.cells - old + weight new)
  counted ← the_store
  becomes (set_base p.root (with_part p.path new) counted)

-- cells are put at places, one after another; the places of which there are no new cells stay
abbrev pub put_counted : List Place → List ℕ → List Cell → Change (Unit {0})
put_counted (p ∷ ps) (old ∷ olds) (new ∷ news) =
    replace_counted p old new >>= λ _. put_counted ps olds news
put_counted _ _ _ = give tt

-- a cell is put at a place by counting so many cells in use, and putting it there
abbrev pub Recounts : Place → ℕ → Cell → Result ℕ End → Store → Type 0
Recounts p old new (Ok n) store =
    replace_counted p old new store
    ≡ Done tt (set_base p.root (with_part p.path new) (record store { cells = n }))
Recounts p old new (Err e) store = replace_counted p old new store ≡ Over (ended e) store
