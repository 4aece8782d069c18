-- Objects and classes (MQL5 Reference, Object-Oriented Programming; Data Types, Object Pointers).
use Rattle.std.specs.Prelude.{ℕ, zero, suc, ◌+◌, ◌-◌, ◌^◌, ◌==◌, not, nat_lt, Bool, true, false, List, [], ◌∷◌, ◌++◌, length, reverse, map, Option, Some, None, slice_get}
use Rattle.mql_mean.specs.declared.value.Value.{Value}
use Rattle.mql_mean.specs.declared.value.Value.TheVariants as value
use Rattle.mql_mean.specs.declared.error.ErrorKind.TheVariants.{InvalidPointer, CellsExhausted, BadCast}
use Rattle.mql_meaning.specs.declared.cell.Cell.{Cell}
use Rattle.mql_meaning.specs.declared.place.Place.{Place}
use Rattle.mql_meaning.specs.declared.place.Root.{Root}
use Rattle.mql_meaning.specs.declared.place.Root.TheVariants as root
use Rattle.mql_meaning.specs.declared.store.Store.{Store}
use Rattle.mql_meaning.specs.declared.store.Frame.{Frame}
use Rattle.mql_meaning.specs.declared.store.Object.{Object}
use Rattle.mql_meaning.specs.declared.tree.Class.{Class}
use Rattle.mql_meaning.specs.declared.tree.Method.{Method}
use Rattle.mql_meaning.specs.declared.types.VarType.{VarType}
use Rattle.mql_meaning.specs.declared.types.Base.{Base}
use Rattle.mql_meaning.specs.declared.types.Base.TheVariants as base
use Rattle.mql_meaning.specs.Changes.{Change, ◌>>=◌, ◌>>◌, give, stuck, the, the_store, becomes, fail, must, either}
use Rattle.mql_meaning.specs.Cells.{total, zero_of, fields_of}
use Rattle.mql_meaning.specs.Places.{counts, object_in, write, serial_of}

-- the parent of a class
abbrev pub parent_of : Option Class → Option ℕ
parent_of None = None
parent_of (Some c) = c.parent

-- the class of a variable of object type
abbrev pub class_in : Base → List ℕ → Option ℕ
class_in (base.Object k) [] = Some k
class_in _ _ = None

abbrev pub object_class : VarType → Option ℕ
object_class t = class_in t.base t.dimensions

-- the greatest serial (own)
abbrev pub last_serial : ℕ
last_serial = 2 ^ 64 - 1

-- the cell of an object itself: that of an automatic one is its variable's or field's (own)
abbrev pub own_cell : Bool → ℕ
own_cell automatic = either automatic 0 1

-- the object of the next serial
abbrev pub next_object : ℕ → Bool → List Cell → Store → Object
next_object class automatic fields store =
    record { serial = store.last + 1; class = class; automatic = automatic; fields = fields }

-- a new object of zeros, which gets the next serial
abbrev pub fresh : List Class → ℕ → Bool → Change ℕ
fresh classes class automatic =
    let fields = map (zero_of classes) (fields_of (slice_get classes class)) in
    do
      before ← the_store
      must (nat_lt before.last last_serial) CellsExhausted
      counts (before.cells + own_cell automatic + total fields)
      store ← the_store
      becomes (record store {
        heap = store.heap ++ next_object class automatic fields store ∷ [];
        last = store.last + 1;
      })
      give (store.last + 1)

-- an object for a variable of object type
abbrev pub for_variable : (ℕ → Change ℕ) → Option ℕ → Place → Change (Unit {0})
for_variable make None p = give tt
for_variable make (Some class) p = make class >>= λ serial. write (value.Ptr serial) p

-- objects for the variables of a list, the first of which has the number that is given, in order
abbrev pub for_all : (ℕ → Change ℕ) → (ℕ → Place) → ℕ → List VarType → Change (Unit {0})
for_all make place i [] = give tt
for_all make place i (t ∷ ts) =
    for_variable make (object_class t) (place i) >>= λ _. for_all make place (i + 1) ts

-- the place of a field of an object
abbrev pub field_at : ℕ → ℕ → Place
field_at serial i = record { root = root.Object serial; path = i ∷ [] }

-- a new object, and then objects for its fields in order, which are automatic. Objects nest at most so deep
abbrev pub make : ℕ → List Class → Bool → ℕ → Change ℕ
make zero classes automatic class = stuck
make (suc deep) classes automatic class = do
  serial ← fresh classes class automatic
  for_all (make deep classes true) (field_at serial) 0 (fields_of (slice_get classes class))
  give serial

-- no object contains itself, so objects nest no deeper than there are classes
abbrev pub new_object : List Class → Bool → ℕ → Change ℕ
new_object classes automatic class = make (length classes) classes automatic class

-- a class is another one or a child of it; chains of parents are no longer than there are classes
abbrev pub is_kind_in : ℕ → List Class → ℕ → Option ℕ → Bool
is_kind_in deep classes wanted None = false
is_kind_in zero classes wanted (Some class) = class == wanted
is_kind_in (suc deep) classes wanted (Some class) =
    either (class == wanted) true (is_kind_in deep classes wanted (parent_of (slice_get classes class)))

abbrev pub is_kind : List Class → ℕ → ℕ → Bool
is_kind classes class wanted = is_kind_in (length classes) classes wanted (Some class)

-- what a class itself says of a signature: nothing, that it is pure, or its function
abbrev pub says : List Method → ℕ → Option (Option ℕ)
says [] signature = None
says (m ∷ ms) signature = either (m.signature == signature) (Some m.function) (says ms signature)

-- the methods that a class has itself
abbrev pub methods_of : Option Class → List Method
methods_of None = []
methods_of (Some c) = c.methods

-- the first answer of two
abbrev pub or_else : {A : Type 0} → Option A → Option A → Option A
or_else None other = other
or_else (Some a) other = Some a

-- the method of a signature that a class has: its own, else its parent's, and so on (MQL5 Reference, Virtual
-- Functions)
abbrev pub found_in : ℕ → List Class → ℕ → Option ℕ → Option (Option ℕ)
found_in deep classes signature None = None
found_in zero classes signature (Some class) = says (methods_of (slice_get classes class)) signature
found_in (suc deep) classes signature (Some class) =
    or_else (says (methods_of (slice_get classes class)) signature)
    (found_in deep classes signature (parent_of (slice_get classes class)))

abbrev pub found : List Class → ℕ → ℕ → Option (Option ℕ)
found classes class signature = found_in (length classes) classes signature (Some class)

-- a method works on this object
abbrev pub is_root : Root → ℕ → Bool
is_root (root.Global g) serial = false
is_root (root.Local f l) serial = false
is_root (root.Object s) serial = s == serial

abbrev pub works_on : Option Place → ℕ → Bool
works_on None serial = false
works_on (Some p) serial = is_root p.root serial

-- the class whose constructor or destructor works on this object, the first of these frames that does
abbrev pub under : List Frame → ℕ → Option ℕ
under [] serial = None
under (f ∷ fs) serial = or_else (either (works_on f.this serial) f.makes None) (under fs serial)

-- the class by which a virtual call goes: while a constructor or destructor works on the object, the class of
-- the innermost one, else its own (own)
abbrev pub class_or : Option ℕ → ℕ → ℕ
class_or None class = class
class_or (Some under_construction) class = under_construction

abbrev pub goes_by : Object → Store → ℕ
goes_by o store = class_or (under (reverse store.frames) o.serial) o.class

-- the objects without one
abbrev pub without : List Object → ℕ → List Object
without [] serial = []
without (o ∷ os) serial = either (o.serial == serial) os (o ∷ without os serial)

-- an object is taken away, and its cells with it
abbrev pub take_away : Object → Change (Unit {0})
take_away o = do
  store ← the_store
  becomes (record store {
    heap = without store.heap o.serial;
    cells = store.cells - (own_cell o.automatic + total o.fields);
  })

-- whether there is an object that is automatic, and one that is not
abbrev pub is_automatic : Option Object → Bool
is_automatic None = false
is_automatic (Some o) = o.automatic

abbrev pub is_dynamic : Option Object → Bool
is_dynamic None = false
is_dynamic (Some o) = not o.automatic

-- the object of a pointer, if it lives
abbrev pub living : Value → Change (Option Object)
living v = do
  s ← the (serial_of v)
  store ← the_store
  give (object_in store.heap s)

-- an automatic object ends, if it still lives
abbrev pub end_automatic : Value → Change (Unit {0})
end_automatic v = do
  found_object ← living v
  either (is_automatic found_object) (the found_object >>= take_away) (give tt)

-- a dynamic object ends; where the pointer is to none it is InvalidPointer
abbrev pub free : Value → Change (Unit {0})
free v = do
  found_object ← living v
  must (is_dynamic found_object) InvalidPointer
  the found_object >>= take_away

-- what a pointer is (MQL5 Reference, CheckPointer): 0 invalid, 1 to a dynamic object, 2 to an automatic one
abbrev pub status_of : Option Object → ℕ
status_of None = 0
status_of (Some o) = either o.automatic 2 1

-- an object taken as one of a class: where it is another one an error if that is strict, else NULL
abbrev pub cast_object : List Class → ℕ → Bool → Value → Option Object → Change Value
cast_object classes class strict v None = either strict (fail InvalidPointer) (give (value.Ptr 0))
cast_object classes class strict v (Some o) =
    either (is_kind classes o.class class) (give v) (either strict (fail BadCast) (give (value.Ptr 0)))

-- a pointer taken as one to an object of a class (MQL5 Reference, Typecasting, Typecasting of Base Class
-- Pointers); `NULL` stays
abbrev pub cast : List Class → ℕ → Bool → Value → Change Value
cast classes class strict v = do
  s ← the (serial_of v)
  found_object ← living v
  either (s == 0) (give v) (cast_object classes class strict v found_object)
