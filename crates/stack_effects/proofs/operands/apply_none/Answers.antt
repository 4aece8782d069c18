use Rattle.stack_effects.proofs.Known.{none_fails}
use Rattle.stack_effects.proofs.operands.apply_none.Goals as goal

pub returns-in-Err : goal.returns-in-Err
returns-in-Err c = λ cs.
    none_fails cs c.args.operator c.args.operands.now c.args.operands.now c.in-Err.fault c.args.store.now c.args.store.now
    (c.in-Err.ensures cs)
