-- Places, and what stands there (MQL5 Reference, Language Basics, Variables; Operations and Expressions). A
-- place is looked up anew at each use.
use Rattle.std.specs.Prelude.{ℕ, ℤ, pos, negsuc, zero, suc, ◌+◌, ◌-◌, ◌==◌, nat_lt, nat_le, Bool, true, false, List, [], ◌∷◌, ◌++◌, length, Option, Some, None, slice_get}
use Rattle.mql_mean.specs.declared.value.Value.{Value, out-Value}
use Rattle.mql_mean.specs.declared.value.Value.TheVariants as value
use Rattle.mql_mean.specs.declared.value.Value.TheOpen.{Value-F}
use Rattle.mql_mean.specs.declared.error.ErrorKind.TheVariants.{ArrayRange, InvalidPointer, CellsExhausted}
use Rattle.mql_meaning.specs.declared.cell.Cell.{Cell, out-Cell}
use Rattle.mql_meaning.specs.declared.cell.Cell.TheVariants as cell
use Rattle.mql_meaning.specs.declared.cell.Cell.TheOpen.{Cell-F}
use Rattle.mql_meaning.specs.declared.place.Place.{Place}
use Rattle.mql_meaning.specs.declared.place.Root.{Root}
use Rattle.mql_meaning.specs.declared.place.Root.TheVariants as root
use Rattle.mql_meaning.specs.declared.store.Store.{Store}
use Rattle.mql_meaning.specs.declared.store.Frame.{Frame}
use Rattle.mql_meaning.specs.declared.store.Slot.{Slot}
use Rattle.mql_meaning.specs.declared.store.Slot.TheVariants.{Own, Lent}
use Rattle.mql_meaning.specs.declared.store.Object.{Object}
use Rattle.mql_meaning.specs.Changes.{Change, ◌>>=◌, ◌>>◌, give, stuck, the, the_store, becomes, fail, must, either, top, then_some}
use Rattle.mql_meaning.specs.Cells.{told, put, weight}

-- the place of a whole variable or object
abbrev pub at_root : Root → Place
at_root r = record { root = r; path = [] }

-- what is there, or goes on with an error
abbrev pub or_fail : {A : Type 0} → Option A → Change A → Change A
or_fail None other = other
or_fail (Some a) other = give a

-- one position into a cell: an element that is not there any more is ArrayRange
abbrev pub into : Cell-F Cell → ℕ → Change Cell
into (Cell-F.One v) i = stuck
into (Cell-F.Array dynamic series unit cs) i = or_fail (slice_get cs i) (fail ArrayRange)
into (Cell-F.Structure cs) i = the (slice_get cs i)

-- the part of a cell at a path
abbrev pub part : List ℕ → Cell → Change Cell
part [] c = give c
part (i ∷ path) c = into (out-Cell c) i >>= part path

-- the object of a serial, if it lives
abbrev pub object_in : List Object → ℕ → Option Object
object_in [] serial = None
object_in (o ∷ os) serial = either (o.serial == serial) (Some o) (object_in os serial)

-- the object of a serial; one that has gone is InvalidPointer
abbrev pub object : ℕ → Change Object
object serial = do
  store ← the_store
  or_fail (object_in store.heap serial) (fail InvalidPointer)

-- the cell of a local that is not lent
abbrev pub own : Slot → Option Cell
own (Own c) = Some c
own (Lent p) = None

-- the locals of a frame
abbrev pub locals_of : Option Frame → List Slot
locals_of None = []
locals_of (Some f) = f.locals

-- what stands at a root; an object is seen as the structure of its fields
abbrev pub base_cell : Root → Change Cell
base_cell (root.Global g) = do
  store ← the_store
  the (slice_get store.globals g)
base_cell (root.Local frame local) = do
  store ← the_store
  the (then_some (slice_get (locals_of (slice_get store.frames frame)) local) own)
base_cell (root.Object serial) = do
  o ← object serial
  give (cell.Structure o.fields)

-- what stands at a place
abbrev pub cell_at : Place → Change Cell
cell_at p = base_cell p.root >>= part p.path

-- an item of a list, changed
abbrev pub changed : {A : Type 0} → List A → ℕ → (A → A) → List A
changed [] i f = []
changed (a ∷ rest) zero f = f a ∷ rest
changed (a ∷ rest) (suc i) f = a ∷ changed rest i f

-- one position of a cell, changed
abbrev pub with_item : Cell-F Cell → ℕ → (Cell → Cell) → Cell
with_item (Cell-F.One v) i f = cell.One v
with_item (Cell-F.Array dynamic series unit cs) i f = cell.Array dynamic series unit (changed cs i f)
with_item (Cell-F.Structure cs) i f = cell.Structure (changed cs i f)

-- a cell with another part at a path
abbrev pub with_part : List ℕ → Cell → Cell → Cell
with_part [] new c = new
with_part (i ∷ path) new c = with_item (out-Cell c) i (with_part path new)

-- a local's own cell, changed
abbrev pub with_own : (Cell → Cell) → Slot → Slot
with_own f (Own c) = Own (f c)
with_own f (Lent p) = Lent p

-- the fields of a structure's cell
abbrev pub fields : Cell-F Cell → List Cell
fields (Cell-F.One v) = []
fields (Cell-F.Array dynamic series unit cs) = []
fields (Cell-F.Structure cs) = cs

-- the objects, one of them with other fields
abbrev pub with_fields : List Object → ℕ → (Cell → Cell) → List Object
with_fields [] serial f = []
with_fields (o ∷ os) serial f =
    either (o.serial == serial) (record o { fields = fields (out-Cell (f (cell.Structure o.fields))) } ∷ os)
    (o ∷ with_fields os serial f)

-- the store with another cell at a root
abbrev pub set_base : Root → (Cell → Cell) → Store → Store
set_base (root.Global g) f store = record store { globals = changed store.globals g f }
set_base (root.Local frame local) f store =
    record store {
      frames = changed store.frames frame
          (λ (fr : Frame). record fr { locals = changed fr.locals local (with_own f) });
    }
set_base (root.Object serial) f store = record store { heap = with_fields store.heap serial f }

-- the most cells (own)
abbrev pub most_cells : ℕ
most_cells = 1000000

-- another number of cells is in use; more than there may be is CellsExhausted
abbrev pub counts : ℕ → Change (Unit {0})
counts n = do
  must (nat_le n most_cells) CellsExhausted
  store ← the_store
  becomes (record store { cells = n })

-- a cell is put in the place of another one; the number of cells changes as they do
abbrev pub replace : Place → Cell → Cell → Change (Unit {0})
replace p old new = do
  store ← the_store
  counts (store.cells - weight old + weight new)
  counted ← the_store
  becomes (set_base p.root (with_part p.path new) counted)

-- the value at a place
abbrev pub read : Place → Change Value
read p = do
  c ← cell_at p
  give (told c)

-- a place gets a value of its type
abbrev pub write : Value → Place → Change (Unit {0})
write v p = do
  old ← cell_at p
  new ← the (put old v)
  replace p old new

-- the place of a field, or of an element by storage
abbrev pub field_place : ℕ → Place → Place
field_place i p = record p { path = p.path ++ i ∷ [] }

-- the number of a value of an integer kind
abbrev pub number_at : Value-F Value → Option ℤ
number_at (Value-F.Num k x) = Some x
number_at _ = None

abbrev pub number_of : Value → Option ℤ
number_of v = number_at (out-Value v)

-- the serial that a pointer holds, 0 for `NULL`
abbrev pub serial_at : Value-F Value → Option ℕ
serial_at (Value-F.Ptr s) = Some s
serial_at _ = None

abbrev pub serial_of : Value → Option ℕ
serial_of v = serial_at (out-Value v)

-- where an element stands by storage; a series is indexed from its end (MQL5 Reference, Arrays and
-- Timeseries)
abbrev pub position : Bool → ℕ → ℕ → ℕ
position true size i = size - 1 - i
position false size i = i

-- the place of an element of an array; an index out of range is ArrayRange (own)
abbrev pub element_place : Cell-F Cell → ℤ → Place → Change Place
element_place (Cell-F.Array dynamic series unit cs) (pos i) p = do
  must (nat_lt i (length cs)) ArrayRange
  give (field_place (position series (length cs) i) p)
element_place (Cell-F.Array dynamic series unit cs) (negsuc i) p = fail ArrayRange
element_place _ i p = stuck

-- the place of the element of an array that has an index
abbrev pub index : Place → Value → Change Place
index p v = do
  i ← the (number_of v)
  c ← cell_at p
  element_place (out-Cell c) i p

-- the place of the object that a pointer points to
abbrev pub pointed : Value → Change Place
pointed v = do
  s ← the (serial_of v)
  object s
  give (at_root (root.Object s))

-- the value of a cell without parts
abbrev pub value_at : Cell-F Cell → Option Value
value_at (Cell-F.One v) = Some v
value_at _ = None

-- the pointer to the object at a place: to the object itself, or to the one that a variable or field holds
abbrev pub pointer_at : Root → List ℕ → Place → Change Value
pointer_at (root.Object serial) [] p = give (value.Ptr serial)
pointer_at _ path p = do
  c ← cell_at p
  s ← the (then_some (value_at (out-Cell c)) serial_of)
  give (value.Ptr s)

abbrev pub pointer_of : Place → Change Value
pointer_of p = pointer_at p.root p.path p

-- the number of the frame in force
abbrev pub depth : Store → ℕ
depth store = length store.frames - 1

-- the place of a local: its own, or the one that was lent
abbrev pub slot_place : Slot → ℕ → ℕ → Place
slot_place (Own c) frame local = at_root (root.Local frame local)
slot_place (Lent p) frame local = p

-- the place of a local of the call in force
abbrev pub local_place : ℕ → Change Place
local_place local = do
  store ← the_store
  slot ← the (slice_get (locals_of (top store)) local)
  give (slot_place slot (depth store) local)

-- the place of the object or structure whose method runs
abbrev pub this_place : Change Place
this_place = do
  store ← the_store
  f ← the (top store)
  the f.this

-- a statement puts its line in force
abbrev pub set_line : ℕ → Change (Unit {0})
set_line line = do
  store ← the_store
  the (top store)
  becomes (record store {
    frames = changed store.frames (depth store) (λ (f : Frame). record f { line = line });
  })
