use Rattle.stack_operators.specs.Steps.{updated}
use Rattle.stack_operators.proofs.Applied.{updates}
use Rattle.stack_operators.proofs.apply.to_place.Goals as goal

pub returns-in-Update : goal.returns-in-Update
returns-in-Update c = λ cs.
    updates cs c.args.operator c.in-Update.by c.in-Update.sort c.args.value c.args.place.now c.args.store.now
    c.update.new.store c.valued-in-Update.result (cc)
    (c.valued-in-Update.ensures (updated c.in-Update.by c.in-Update.sort c.args.value c.args.place.now c.args.store.now)
    c.update.new.store c.update.ensures)
