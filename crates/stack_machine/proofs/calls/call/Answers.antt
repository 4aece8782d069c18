use Rattle.std.proofs.Common.{sym, refl, map}
use Rattle.store_frames.specs.Operands.{shown}
use Rattle.stack_machine.proofs.Lands.{called, not_called}
use Rattle.stack_machine.proofs.calls.call.Goals as goal

pub returns-in-Err : goal.returns-in-Err
returns-in-Err c = λ n calls answers. not_called c.args.code.now c.args.function c.in-Some.called.now (sym c.in-Some.ensures.value) n calls answers c.args.state.now c.in-Some-arguments_of.count c.in-Some-arguments_of.ensures c.in-Err.fault (record c.args.state.now { operands = c.take.new.operands }) (map shown c.take.new.operands) c.in-Err.ensures refl

pub returns-in-Ok-push : goal.returns-in-Ok-push
returns-in-Ok-push c = λ n calls answers. called c.args.code.now c.args.function c.in-Some.called.now (sym c.in-Some.ensures.value) n calls answers c.args.state.now c.in-Some-arguments_of.count c.in-Some-arguments_of.ensures c.start.result c.start.new.state c.in-Ok.operands c.take.new.operands _ c.push.new.self c.in-Ok.ensures refl c.in-Ok-push.ensures (c.start.ensures n calls answers)
