use Rattle.stack_effects.proofs.Known.{two_fail}
use Rattle.stack_effects.proofs.operands.apply_two.Goals as goal

pub returns-in-Err : goal.returns-in-Err
returns-in-Err c = λ cs.
    two_fail cs c.args.operator c.args.operands.now c.pop.new.self c.pop-2.new.self c.pop-2.new.self c.in-Some-pop.first
    c.in-Some.second c.in-Err.fault c.args.store.now c.on_two.new.store c.in-Some.ensures c.in-Some-pop.ensures
    (c.in-Err.ensures cs)
