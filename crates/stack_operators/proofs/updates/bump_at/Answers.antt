use Rattle.stack_operators.proofs.Updated.{bump_gives}
use Rattle.stack_operators.proofs.updates.bump_at.Goals as goal

pub returns : goal.returns
returns c =
    bump_gives c.args.bump c.args.place.now c.args.store.now c.bump_from.new.store c.in_ok-old.old c.bump_from.result
    c.in_ok-old.ensures c.bump_from.ensures
