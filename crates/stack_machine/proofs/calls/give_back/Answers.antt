use Rattle.std.proofs.Common.{sym}
use Rattle.stack_machine.proofs.Lands.{nothing_returned, returned_so}
use Rattle.stack_machine.proofs.calls.give_back.Goals as goal

pub returns-in_default-returned : goal.returns-in_default-returned
returns-in_default-returned c = λ n calls answers. nothing_returned c.args.code.now c.args.state.now c.in-Some.function.now (sym c.in-Some.ensures.value) c.is_some-gives.result c.is_some-gives.ensures n calls answers c.in_default-returned.ensures

pub returns : goal.returns
returns c = λ n calls answers. returned_so c.args.code.now c.args.state.now c.in-Some.function.now (sym c.in-Some.ensures.value) c.is_some-gives.result c.is_some-gives.ensures n calls answers c.go_back.result c.go_back.new.state c.in-Some-returned.value c.returned.new.operands c.leave.new.store c.in-Some-returned.ensures c.leave.ensures (c.go_back.ensures n calls answers)
