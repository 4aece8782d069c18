use Rattle.stack_unboxed.proofs.Gives.{two_back}
use Rattle.stack_unboxed.proofs.effects.apply_two.Goals as goal

pub returns-in_ok-push-in-None-2 : goal.returns-in_ok-push-in-None-2
returns-in_ok-push-in-None-2 c = λ cs. two_back cs c.args.operator c.in-Some-pop.first c.in-Some.second c.args.top.now c.pop.new.self c.pop-2.new.self c.push-in-None.new.self c.push-in-None-2.new.self c.args.store.now c.of_two.new.store c.in-Some.ensures c.in-Some-pop.ensures c.in_ok-push-in-None.ensures c.in_ok-push-in-None-2.ensures (c.in-None.ensures cs)
