use Rattle.std.proofs.Common.{sym}
use Rattle.stack_machine.proofs.Unboxed.{went_on}
use Rattle.stack_machine.proofs.quick.advance.Goals as goal

pub returns-in-Some : goal.returns-in-Some
returns-in-Some c =
    went_on c.args.code.now c.in-Some.instruction c.args.state.now c.act.new.state c.args.steps.now c.act.new.steps c.args.top.now c.act.new.top c.act.result
    c.requires (sym c.in-Some.ensures.value) c.act.ensures
