use Rattle.std.proofs.Common.{◌+◌, refl, map}
use Rattle.store_frames.specs.Operands.{shown}
use Rattle.stack_machine.proofs.Turns.{not_taken, valued_so, halted_so}
use Rattle.stack_machine.proofs.asks.ask.Goals as goal

pub returns-in-Err-clause-does : goal.returns-in-Err-clause-does
returns-in-Err-clause-does g c = λ n. not_taken _ c.args.code.now c.args.state.now n c.args.world.now c.args.native c.args.count c.requires.here c.in-Err.fault (map shown c.take.new.operands) (record c.args.state.now { operands = c.take.new.operands }) c.in-Err.ensures refl

pub returns-in-Ok-call-clause-does : goal.returns-in-Ok-call-clause-does
returns-in-Ok-call-clause-does g c = λ n. valued_so _ c.args.code.now c.args.state.now n c.args.world.now c.args.native c.args.count c.requires.here c.in-Ok.operands c.take.new.operands c.in-Ok.ensures c.call.new.self c.in-Ok-call.value (record c.args.state.now { operands = c.give.new.operands; store = c.call.new.store; place = c.args.state.now.place + 1 }) c.give.result c.is_void.result c.is_void.ensures (c.in-Ok-call.ensures n) c.give.ensures refl refl refl

pub returns-in-Err-call-clause-does : goal.returns-in-Err-call-clause-does
returns-in-Err-call-clause-does g c = λ n. rw c.halted.ensures (halted_so _ c.args.code.now c.args.state.now n c.args.world.now c.args.native c.args.count c.requires.here c.in-Ok.operands c.take.new.operands c.in-Ok.ensures c.call.new.self c.in-Err-call.halt (record c.args.state.now { operands = c.take.new.operands; store = c.call.new.store }) (c.in-Err-call.ensures n))
