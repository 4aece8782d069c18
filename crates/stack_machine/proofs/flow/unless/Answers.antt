use Rattle.stack_machine.proofs.Lands.{holds_so, fails_so, no_condition}
use Rattle.stack_machine.proofs.flow.unless.Goals as goal

pub returns-in_default : goal.returns-in_default
returns-in_default c = λ n calls answers. no_condition c.args.code.now c.args.state.now n calls answers c.args.label c.in_default.ensures

pub returns-then-holds : goal.returns-then-holds
returns-then-holds c = λ n calls answers. holds_so c.args.code.now c.args.state.now n calls answers c.args.label c.in-Some.holds c.condition.new.operands c.in-Some.ensures c.if-holds.true

pub returns-else-holds : goal.returns-else-holds
returns-else-holds c = λ n calls answers. fails_so c.args.code.now c.args.state.now n calls answers c.jump.result c.jump.new.state c.args.label c.in-Some.holds c.condition.new.operands c.in-Some.ensures c.if-holds.false (c.jump.ensures n calls answers)
