use Rattle.stack_machine.proofs.Lands.{effect_done, effect_fails}
use Rattle.stack_machine.proofs.flow.plain.Goals as goal

pub returns-in-Ok : goal.returns-in-Ok
returns-in-Ok c = λ n calls answers. effect_done c.args.code.now c.args.state.now n calls answers c.args.what _ c.locals_of-locals.ensures c.does_effect.new.operands c.does_effect.new.store c.in-Ok.field-0 c.in-Ok.ensures

pub returns-in-Err : goal.returns-in-Err
returns-in-Err c = λ n calls answers. rw c.faulted.ensures (effect_fails c.args.code.now c.args.state.now n calls answers c.args.what _ c.locals_of-locals.ensures c.in-Err.fault c.does_effect.new.operands (record c.args.state.now { operands = c.does_effect.new.operands; store = c.does_effect.new.store }) c.in-Err.ensures)
