-- Calls, locals and globals (MQL5 Reference, Language Basics, Functions; Variables, Visibility Scope and
-- Lifetime of Variables; Passing Parameters).
use Rattle.std.specs.Prelude.{is_some, ℕ, ◌+◌, ◌-◌, ◌==◌, nat_lt, Bool, true, false, List, [], ◌∷◌, ◌++◌, length, take, map, Option, Some, None}
use Rattle.mql_mean.specs.declared.value.Value.{Value}
use Rattle.mql_mean.specs.declared.error.ErrorKind.TheVariants.{StackOverflow}
use Rattle.mql_meaning.specs.declared.cell.Cell.{Cell}
use Rattle.mql_meaning.specs.declared.place.Place.{Place}
use Rattle.mql_meaning.specs.declared.place.Root.TheVariants as root
use Rattle.mql_meaning.specs.declared.store.Store.{Store}
use Rattle.mql_meaning.specs.declared.store.Frame.{Frame}
use Rattle.mql_meaning.specs.declared.store.SetInput.{SetInput}
use Rattle.mql_meaning.specs.declared.store.Slot.{Slot}
use Rattle.mql_meaning.specs.declared.store.Slot.TheVariants.{Own, Lent}
use Rattle.mql_meaning.specs.declared.tree.Checked.{Checked}
use Rattle.mql_meaning.specs.declared.tree.Class.{Class}
use Rattle.mql_meaning.specs.declared.tree.Function.{Function}
use Rattle.mql_meaning.specs.declared.tree.Input.{Input}
use Rattle.mql_meaning.specs.declared.types.VarType.{VarType}
use Rattle.mql_meaning.specs.Changes.{Change, ◌>>=◌, ◌>>◌, give, stuck, the, the_store, becomes, must, either, top, then_some}
use Rattle.mql_meaning.specs.Cells.{put, weight, total, zero_of}
use Rattle.mql_meaning.specs.Places.{counts, at_root, local_place, cell_at, replace, write, locals_of}
use Rattle.mql_meaning.specs.Objects.{new_object, object_class, for_variable, for_all}
use Rattle.mql_meaning.specs.Operands.{Operand, Val, At, literal}

-- the store with which a program begins whose inputs were set to these values
abbrev pub opening : List SetInput → Store
opening set = record { frames = []; globals = []; heap = []; last = 0; cells = 0; inputs = set }

-- the most calls in force at once (own)
abbrev pub most_frames : ℕ
most_frames = 1024

-- the locals of a call at its beginning: the parameters, by reference or by value, and then the others, which
-- are zero
abbrev pub slots : List Cell → List Bool → List Operand → Option (List Slot)
slots [] [] [] = Some []
slots (c ∷ cs) [] [] = then_some (slots cs [] []) (λ ss. Some (Own c ∷ ss))
slots (c ∷ cs) (true ∷ ls) (At p ∷ xs) = then_some (slots cs ls xs) (λ ss. Some (Lent p ∷ ss))
slots (c ∷ cs) (false ∷ ls) (Val v ∷ xs) =
    then_some (put c v) (λ d. then_some (slots cs ls xs) (λ ss. Some (Own d ∷ ss)))
slots _ _ _ = None

-- how many cells locals take: what was lent takes none
abbrev pub held : List Slot → ℕ
held [] = 0
held (Own c ∷ ss) = weight c + held ss
held (Lent p ∷ ss) = held ss

-- the class whose constructor or destructor it is
abbrev pub made_by : Function → Option ℕ
made_by f = either f.makes f.class None

-- a call's frame at its beginning
abbrev pub new_frame : Function → Option Place → List Slot → Frame
new_frame f this ss = record { locals = ss; this = this; makes = made_by f; line = 0 }

-- a call on an object or structure, or on none: its cells are counted, and it has its frame
abbrev pub enter_with : List Class → Function → Option Place → List Operand → Change (Unit {0})
enter_with classes f this xs = do
  ss ← the (slots (map (zero_of classes) f.locals) f.lent xs)
  before ← the_store
  counts (before.cells + held ss)
  store ← the_store
  becomes (record store { frames = store.frames ++ new_frame f this ss ∷ [] })

-- the object of a method comes before its arguments
abbrev pub enter_by : Bool → List Class → Function → List Operand → Change (Unit {0})
enter_by true classes f (At p ∷ xs) = enter_with classes f (Some p) xs
enter_by true classes f _ = stuck
enter_by false classes f xs = enter_with classes f None xs

-- a call begins: the 1,025th at once is StackOverflow at the caller's line (own)
abbrev pub enter : List Class → Function → List Operand → Change (Unit {0})
enter classes f xs = do
  store ← the_store
  must (nat_lt (length store.frames) most_frames) StackOverflow
  enter_by (is_some f.class) classes f xs

-- a call ends: its frame and its cells are given back
abbrev pub leave : Change (Unit {0})
leave = do
  store ← the_store
  becomes (record store {
    frames = take (length store.frames - 1) store.frames;
    cells = store.cells - held (locals_of (top store));
  })

-- a local begins anew: as zero, and with its object
abbrev pub reset_one : List Class → VarType → Place → Change (Unit {0})
reset_one classes t p = do
  old ← cell_at p
  replace p old (zero_of classes t)
  for_variable (new_object classes true) (object_class t) p

-- locals of these types begin anew, the first of which has the number that is given
abbrev pub reset : List Class → ℕ → List VarType → Change (Unit {0})
reset classes i [] = give tt
reset classes i (t ∷ ts) = local_place i >>= λ p. reset_one classes t p >>= λ _. reset classes (i + 1) ts

-- the place of a global
abbrev pub global_place : ℕ → Place
global_place g = at_root (root.Global g)

-- the value of an input: the one that was set, else its default
abbrev pub input_value : List SetInput → Input → Value
input_value [] input = input.default
input_value (s ∷ set) input = either (s.global == input.global) s.value (input_value set input)

-- inputs get their values in order (MQL5 Reference, Variables, Input Variables)
abbrev pub write_inputs : List SetInput → List Input → Change (Unit {0})
write_inputs set [] = give tt
write_inputs set (input ∷ inputs) =
    literal (input_value set input) >>= λ v.
    write v (global_place input.global) >>= λ _. write_inputs set inputs

-- the program begins: globals and statics are zero, those of object type get their objects in order, and
-- inputs their values
abbrev pub begin : Checked → Change (Unit {0})
begin p =
    let cells = map (zero_of p.classes) p.globals in
    do
      before ← the_store
      counts (before.cells + total cells)
      store ← the_store
      becomes (record store { globals = cells })
      for_all (new_object p.classes true) global_place 0 p.globals
      write_inputs store.inputs p.inputs
