use Rattle.stack_unboxed.proofs.Gives.{constant_did}
use Rattle.stack_unboxed.proofs.effects.do_constant.Goals as goal

pub returns-in_ok-push-in-Some : goal.returns-in_ok-push-in-Some
returns-in_ok-push-in-Some c = λ ts ops. constant_did c.args.code.now ts c.args.number c.in-Some.number c.args.top.now c.push.new.self c.args.store.now c.in-Some.ensures c.in_ok-push-in-Some.ensures ops
