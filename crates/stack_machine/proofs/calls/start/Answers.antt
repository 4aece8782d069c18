use Rattle.std.proofs.Common.{sym, map}
use Rattle.store_frames.specs.Operands.{shown}
use Rattle.stack_machine.specs.Steps.{back}
use Rattle.stack_machine.proofs.Lands.{started, not_started}
use Rattle.stack_machine.proofs.calls.start.Goals as goal

pub returns-in-Ok : goal.returns-in-Ok
returns-in-Ok c = λ n calls answers. started c.args.code.now c.args.function c.in-Some.called.now (sym c.in-Some.ensures.value) n calls answers _ _ c.as_slice.ensures c.head.ensures (map shown c.args.operands) (map shown c.args.state.now.operands) (map back c.args.state.now.backs) c.args.state.now.store c.enter.new.store c.in-Ok.field-0 c.in-Ok.ensures

pub returns-in-Err : goal.returns-in-Err
returns-in-Err c = λ n calls answers. rw c.faulted.ensures (not_started c.args.code.now c.args.function c.in-Some.called.now (sym c.in-Some.ensures.value) n calls answers _ _ c.as_slice.ensures c.head.ensures (map shown c.args.operands) (map shown c.args.state.now.operands) (map back c.args.state.now.backs) c.args.state.now.store c.in-Err.fault (record c.args.state.now { store = c.enter.new.store }) c.in-Err.ensures)
