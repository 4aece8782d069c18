-- Native functions by how they are called.
use Rattle.std.specs.Prelude.{List, Result, Ok, Err}
use Rattle.natives.specs.declared.native.Native.{Native}
use Rattle.natives.specs.declared.native.Native.TheVariants as natives
use Rattle.mql_mean.specs.declared.value.Value.{Value}
use Rattle.mql_meaning.specs.Operands.{Operand}
use Rattle.mql_meaning.specs.References.{points, tells_status}
use Rattle.mql_meaning.specs.Runs.{Act, change}
use Rattle.mql_meaning.specs.Calls.{runs_native}
use Rattle.store_cells.specs.declared.fault.Fault.{Fault}
use Rattle.stack_world.specs.declared.halt.Halt.{Halt}
use Rattle.stack_world.specs.Acts.{halted}
use Rattle.native_calls.specs.declared.calls.Kind.{Kind}
use Rattle.native_calls.specs.declared.calls.Kind.TheVariants as kind

-- how a native function is called
abbrev pub kind_of : Native → Kind
kind_of natives.GetPointer = kind.Points
kind_of natives.CheckPointer = kind.TellsStatus
kind_of _ = kind.OverArguments

-- what a call does, by its kind
abbrev pub calls_by : Kind → Native → List Operand → Act Value
calls_by kind.Points f xs = change (points xs)
calls_by kind.TellsStatus f xs = change (tells_status xs)
calls_by kind.OverArguments f xs = runs_native f xs

-- a change as a call
abbrev pub by_change : Result Value Fault → Result Value Halt
by_change (Ok v) = Ok v
by_change (Err fault) = Err (halted fault)
