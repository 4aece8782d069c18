-- What is lent to a call of a native function.
use Rattle.std.specs.Prelude.{◌≡◌, List, [], ◌∷◌, Result, Ok, Err}
use Rattle.mql_meaning.specs.declared.cell.Cell.{Cell}
use Rattle.mql_meaning.specs.declared.store.Store.{Store}
use Rattle.mql_meaning.specs.Changes.{Change, ◌>>=◌, give, for_each, Done, Over}
use Rattle.mql_meaning.specs.Operands.{Operand, Val, At}
use Rattle.mql_meaning.specs.Places.{cell_at}
use Rattle.mql_meaning.specs.Natives.{Argument, Given, Lent}
use Rattle.store_cells.specs.declared.fault.End.{End}
use Rattle.store_cells.specs.declared.fault.Fault.{Fault}
use Rattle.store_cells.specs.declared.fault.Fault.TheVariants as fault
use Rattle.store_cells.specs.Changes.{ended}
use Rattle.native_arguments.specs.declared.argument.Argument as code
use Rattle.native_arguments.specs.Arguments.{all_shown, shown}

-- the cells among arguments
abbrev pub cells_in : List Argument → List Cell
cells_in [] = []
cells_in (Given v ∷ xs) = cells_in xs
cells_in (Lent c ∷ xs) = c ∷ cells_in xs

-- an operand as an argument: a value, or what stands at a place
abbrev pub lends_one : Operand → Change Argument
lends_one (Val v) = give (Given v)
lends_one (At p) = cell_at p >>= λ c. give (Lent c)

-- operands as arguments
abbrev pub lends : List Operand → Change (List Argument)
lends xs = for_each lends_one xs

-- a call lends what a change gives that leaves the store, or says how it ends the run
abbrev pub LendsOne : Operand → Result code.Argument End → Store → Type 0
LendsOne x (Ok a) store = lends_one x store ≡ Done (shown a) store
LendsOne x (Err e) store = lends_one x store ≡ Over (ended e) store

abbrev pub LendsAll : List Operand → Result (List code.Argument) Fault → Store → Type 0
LendsAll xs (Ok args) store = lends xs store ≡ Done (all_shown args) store
LendsAll xs (Err (fault.End e)) store = lends xs store ≡ Over (ended e) store
LendsAll xs (Err fault.OutOfMemory) store = Unit {0}
