-- Cells that are put in the place of others.
use Rattle.std.specs.Prelude.{◌≡◌, ◌<◌, ◌≤◌, ℕ, suc, ◌==◌, nat_lt, ℤ, pos, negsuc, Bool, List, [], ◌∷◌, Option, Some, None, Result, Ok, Err, MatchOption}
use Rattle.mql_mean.specs.declared.value.Value.{Value}
use Rattle.mql_mean.specs.declared.value.Value.TheVariants as value
use Rattle.mql_mean.specs.declared.error.ErrorKind.TheVariants.{ArrayRange}
use Rattle.mql_meaning.specs.declared.cell.Cell.{Cell, out-Cell}
use Rattle.mql_meaning.specs.declared.cell.Cell.TheVariants as cell
use Rattle.mql_meaning.specs.declared.place.Place.{Place}
use Rattle.mql_meaning.specs.declared.store.Frame.{Frame}
use Rattle.mql_meaning.specs.declared.store.Object.{Object}
use Rattle.mql_meaning.specs.declared.store.Store.{Store}
use Rattle.mql_meaning.specs.Changes.{Change, ◌>>=◌, either, Done, Over, fail, give, the, then_some}
use Rattle.mql_meaning.specs.Places.{changed, fields, field_place, cell_at, most_cells, position, serial_of, value_at, replace, set_base, with_own, with_part, write}
use Rattle.store_cells.specs.declared.fault.End.{End}
use Rattle.store_cells.specs.declared.fault.Fault.{Fault}
use Rattle.store_cells.specs.declared.fault.Fault.TheVariants as fault
use Rattle.store_cells.specs.Changes.{ended}

-- an object with other fields
abbrev pub object_with : (Cell → Cell) → Object → Object
object_with f o = record o { fields = fields (out-Cell (f (cell.Structure o.fields))) }

-- a frame, one of its locals with another cell
abbrev pub with_local : ℕ → (Cell → Cell) → Frame → Frame
with_local local f frame = record frame { locals = changed frame.locals local (with_own f) }

-- the position of the first object that has a serial, past all where none has it
abbrev pub place_in : List Object → ℕ → ℕ
place_in [] serial = 0
place_in (o ∷ os) serial = either (o.serial == serial) 0 (suc (place_in os serial))

-- a cell is put in the place of what stands at a place
abbrev pub put_at : Cell → Place → Change (Unit {0})
put_at new p = cell_at p >>= λ old. replace p old new

-- so many cells may be in use; none where they are too many
abbrev pub Counted : ℕ → Option ℕ → Type 0
Counted n result = MatchOption result (most_cells < n) (λ c. (c ≡ n) × (c ≤ most_cells))

-- a cell is put at a place by counting so many cells in use, and putting it there
abbrev pub Recounts : Cell → Place → Result ℕ End → Store → Type 0
Recounts new p (Ok n) store =
    put_at new p store ≡ Done tt (set_base p.root (with_part p.path new) (record store { cells = n }))
Recounts new p (Err e) store = put_at new p store ≡ Over (ended e) store

-- the cell that a place gets for a value: it is written by putting it there
abbrev pub Makes : Value → Place → Result Cell Fault → Store → Type 0
Makes v p (Ok new) store = write v p store ≡ put_at new p store
Makes v p (Err (fault.End e)) store = write v p store ≡ Over (ended e) store
Makes v p (Err fault.OutOfMemory) store = Unit {0}

-- which of so many elements a number is
abbrev pub within : ℤ → ℕ → Option ℕ
within (pos i) size = either (nat_lt i size) (Some i) None
within (negsuc i) size = None

-- the place of one of so many elements
abbrev pub element_of : Bool → ℕ → Option ℕ → Place → Change Place
element_of series size None p = fail ArrayRange
element_of series size (Some i) p = give (field_place (position series size i) p)

-- the pointer that a variable or a field holds
abbrev pub held_pointer : Place → Change Value
held_pointer p = do
  c ← cell_at p
  s ← the (then_some (value_at (out-Cell c)) serial_of)
  give (value.Ptr s)
