-- What a native function does, as the code has it.
use Rattle.std.specs.Prelude.{◌≡◌, true, false, List, [], ◌∷◌, Result, Ok, Err}
use Rattle.mql_mean.specs.declared.value.Value.{Value}
use Rattle.mql_meaning.specs.declared.cell.Cell.{Cell}
use Rattle.mql_meaning.specs.declared.store.Store.{Store}
use Rattle.mql_meaning.specs.Changes.{Change, Out, Done, Over}
use Rattle.mql_meaning.specs.Natives as meaning
use Rattle.store_cells.specs.declared.fault.Fault.{Fault}
use Rattle.store_cells.specs.declared.fault.Fault.TheVariants as fault
use Rattle.store_cells.specs.Changes.{ended}
use Rattle.native_arguments.specs.declared.done.NativeDone.{NativeDone}

-- what a native function does
abbrev pub done_of : NativeDone → meaning.NativeDone
done_of d = record { value = d.value; outs = d.outs; out_of_range = d.out_of_range }

-- a call gives what a change gives that leaves the store, or its end; want of memory says nothing
abbrev pub Comes : Out meaning.NativeDone → Result NativeDone Fault → Store → Type 0
Comes out (Ok d) store = out ≡ Done (done_of d) store
Comes out (Err (fault.End e)) store = out ≡ Over (ended e) store
Comes out (Err fault.OutOfMemory) store = Unit {0}

abbrev pub Computes : Change meaning.NativeDone → Result NativeDone Fault → Store → Type 0
Computes change result store = Comes (change store) result store
