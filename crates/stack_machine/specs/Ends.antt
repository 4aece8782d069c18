-- How a run ends, as the code has it.
use Rattle.mql_meaning.specs.Changes.{Ended, Returned, Failed, Exhausted, Stopped, Stuck}
use Rattle.store_cells.specs.declared.fault.End as changes
use Rattle.store_cells.specs.declared.fault.End.TheVariants as change_end
use Rattle.store_cells.specs.declared.fault.Fault as change_faults
use Rattle.store_cells.specs.declared.fault.Fault.TheVariants as change_fault
use Rattle.stack_world.specs.declared.halt.Halt.{Halt}
use Rattle.stack_world.specs.declared.halt.Halt.TheVariants as halt
use Rattle.stack_machine.specs.declared.ends.End.{End}
use Rattle.stack_machine.specs.declared.ends.End.TheVariants as end
use Rattle.stack_machine.specs.declared.ends.Fault.{Fault}
use Rattle.stack_machine.specs.declared.ends.Fault.TheVariants as fault

-- the end that the machine tells
abbrev pub as_ended : End → Ended
as_ended (end.Returned v) = Returned v
as_ended (end.Failed e) = Failed e.kind e.line
as_ended end.Exhausted = Exhausted
as_ended end.Stopped = Stopped
as_ended end.Stuck = Stuck

-- where a change of the store ends the run
abbrev pub by_change : changes.End → End
by_change (change_end.Failed e) = end.Failed e
by_change change_end.Stuck = end.Stuck

-- where a change of the store does not come to its end
abbrev pub faulted : change_faults.Fault → Fault
faulted (change_fault.End e) = fault.End (by_change e)
faulted change_fault.OutOfMemory = fault.OutOfMemory

-- where an act of a program does not go on
abbrev pub halted : Halt → Fault
halted (halt.End e) = fault.End (by_change e)
halted halt.Stopped = fault.End end.Stopped
halted halt.OutOfMemory = fault.OutOfMemory
