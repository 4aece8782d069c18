use Rattle.std.proofs.Common.{w32}
use Rattle.std.proofs.lemmas.Int.{to_z-of_z}
use Rattle.stack_machine.proofs.Begins.{runs_so, ends_at_once}
use Rattle.stack_machine.proofs.machine.Machine.call.Goals as goal

pub returns-in-Ok : goal.returns-in-Ok
returns-in-Ok g c = rw (← c.self.view_is) (runs_so _ c.args.code.now c.args.entry c.args.arg _ c.args.steps.now c.run.new.steps c.self.inside.state.store c.begin_event.new.state _ _ c.run.result c.run.new.state.store (to_z-of_z w32 c.args.arg c.ranges.arg) c.in-Ok.ensures c.run.ensures)

pub returns-in-Err-End : goal.returns-in-Err-End
returns-in-Err-End g c = rw (c.in-Err-End.end-is, ← c.self.view_is) (ends_at_once _ c.args.code.now c.args.entry c.args.arg _ c.args.steps.now c.self.inside.state.store c.begin_event.new.state.store c.in-Err-End.end _ (to_z-of_z w32 c.args.arg c.ranges.arg) (rw c.in-Err-End.field-0-is at c.in-Err-End.ensures))
