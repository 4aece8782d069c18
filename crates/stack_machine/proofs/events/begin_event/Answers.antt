use Rattle.std.proofs.Common.{ℤ, ap, sym, ◌∙◌, w32}
use Rattle.std.proofs.lemmas.Int.{to_z-of_z}
use Rattle.mql_meaning.specs.Means.{event_arguments}
use Rattle.stack_machine.proofs.Begins.{not_first, no_event, event_begins}
use Rattle.stack_machine.proofs.events.begin_event.Goals as goal

pub returns-in-Err : goal.returns-in-Err
returns-in-Err c = λ n calls answers. rw c.faulted.ensures (not_first c.args.code.now c.args.entry c.args.arg n c.args.state.now.store calls answers c.in-Err.fault (record c.args.state.now { operands = c.clear.new.stack; backs = c.clear-2.new.stack; store = c.first.new.store }) c.in-Err.ensures)

pub returns-in_default : goal.returns-in_default
returns-in_default c = λ n calls answers. no_event c.args.code.now c.args.entry c.args.arg n c.args.state.now.store calls answers c.first.new.store c.in-Ok.field-0 c.in-Ok.ensures (sym c.in_default.ensures)

pub returns-in-Ok-event_arguments : goal.returns-in-Ok-event_arguments
returns-in-Ok-event_arguments c = λ n calls answers. event_begins c.args.code.now c.args.entry c.args.arg n c.args.state.now.store calls answers c.start.result c.start.new.state c.first.new.store c.in-Some.function c.in-Ok-event_arguments.operands c.clear.new.stack c.clear-2.new.stack c.in-Ok.field-0 c.in-Ok.ensures (sym c.in-Some.ensures) (c.in-Ok-event_arguments.ensures ∙ ap (λ (a : ℤ). event_arguments c.args.entry a) (to_z-of_z w32 c.args.arg c.ranges.arg)) c.clear.ensures c.clear-2.ensures (c.start.ensures n calls answers)
