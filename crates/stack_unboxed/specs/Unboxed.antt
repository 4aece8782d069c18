-- Operands that take no memory, and what is done to them: the whole of what an effect does, or nothing.
use Rattle.std.specs.Prelude.{◌≡◌, ◌++◌, ℕ, slice_get, ℤ, Bool, true, false, List, map, Option, Some, None, Result, Ok, Err}
use Rattle.fx8.specs.declared.int_kind.IntKind.{IntKind}
use Rattle.fx8.specs.declared.int_operator.IntOperator.{IntOperator}
use Rattle.fx8.specs.declared.out_of_memory.OutOfMemory.{OutOfMemory}
use Rattle.fx8.specs.Integers.{InRange}
use Rattle.fx8.specs.Operators.{computed}
use Rattle.mql_mean.specs.declared.value.Value.{Value}
use Rattle.mql_mean.specs.declared.value.Value.TheVariants as value
use Rattle.mql_meaning.specs.declared.cell.Cell.{Cell}
use Rattle.mql_meaning.specs.declared.cell.Cell.TheVariants as cell
use Rattle.mql_meaning.specs.declared.place.Root.{Root}
use Rattle.mql_meaning.specs.declared.place.Root.TheVariants as root
use Rattle.mql_meaning.specs.declared.store.Store.{Store}
use Rattle.mql_meaning.specs.Changes.{Change, Done, then_some}
use Rattle.mql_meaning.specs.Operands as meaning
use Rattle.mql_meaning.specs.Places.{at_root, local_place, locals_of, own}
use Rattle.stack_unboxed.specs.declared.unboxed.Unboxed.{Unboxed}
use Rattle.stack_unboxed.specs.declared.unboxed.Unboxed.TheVariants as unboxed
use Rattle.stack_unboxed.specs.declared.unboxed.Number.{Number}

-- a number that is told is this one
abbrev pub Is : Option ℤ → ℤ → Type 0
Is (Some n) x = n ≡ x
Is None x = Unit {0}

-- a number that is said to be in a kind's range is there
abbrev pub Fits : Bool → IntKind → ℤ → Type 0
Fits true k x = InRange k x
Fits false k x = Unit {0}

-- a number that is told is what an operator gives
abbrev pub Computes : Option ℤ → IntOperator → IntKind → ℤ → ℤ → Type 0
Computes (Some z) o k x y = computed o k x y ≡ Ok z
Computes None o k x y = Unit {0}

-- the operand of the meaning
abbrev pub boxed : Unboxed → meaning.Operand
boxed (unboxed.Number m) = meaning.Val (value.Num m.kind m.number)
boxed (unboxed.Variable r) = meaning.At (at_root r)

-- operands that take no memory, on top of others
abbrev pub upon : List Unboxed → List meaning.Operand → List meaning.Operand
upon top ops = map boxed top ++ ops

-- what is told is the number that a value is
abbrev pub Told : Option Number → Option Value → Type 0
Told (Some m) v = v ≡ Some (value.Num m.kind m.number)
Told None v = Unit {0}

-- the cell at a root that is no object
abbrev pub cell_of : Root → Store → Option Cell
cell_of (root.Global g) store = slice_get store.globals g
cell_of (root.Local frame local) store =
    then_some (slice_get (locals_of (slice_get store.frames frame)) local) own
cell_of (root.Object serial) store = None

-- what is told is the number that a cell holds
abbrev pub Holds : Option Number → Option Cell → Type 0
Holds (Some m) c = c ≡ Some (cell.One (value.Num m.kind m.number))
Holds None c = Unit {0}

-- what is told is the root at which a local stands
abbrev pub Names : Option Root → ℕ → Store → Type 0
Names (Some r) local store = local_place local store ≡ Done (at_root r) store
Names None local store = Unit {0}

-- an operand that is given is what a change gives; where none is, the store is as it was
abbrev pub Gave : Option Unboxed → Change meaning.Operand → Store → Store → Type 0
Gave (Some x) f s s' = f s ≡ Done (boxed x) s'
Gave None f s s' = s' ≡ s

-- the same, where the store stays
abbrev pub Tells : Option Unboxed → Change meaning.Operand → Store → Type 0
Tells (Some x) f s = f s ≡ Done (boxed x) s
Tells None f s = Unit {0}

-- a change was made, or nothing was done
abbrev pub Made : Bool → Change (Unit {0}) → Store → Store → Type 0
Made true f s s' = f s ≡ Done tt s'
Made false f s s' = s' ≡ s

-- the whole of what an effect does was done, or nothing; want of memory says nothing
abbrev pub Did : (List meaning.Operand → Change (List meaning.Operand)) → Result Bool OutOfMemory
    → List Unboxed → List Unboxed → Store → Store → Type 0
Did f (Ok true) p p' s s' = (ops : List meaning.Operand) → f (upon p ops) s ≡ Done (upon p' ops) s'
Did f (Ok false) p p' s s' = (p' ≡ p) × (s' ≡ s)
Did f (Err e) p p' s s' = Unit {0}
