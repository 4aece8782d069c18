use Rattle.native_calls.proofs.Calling.{tells_goes, tells_nothing, tells_off}
use Rattle.native_calls.proofs.asking.tells.Goals as goal

pub returns-then-not-out_of_range : goal.returns-then-not-out_of_range
returns-then-not-out_of_range g c = λ n.
    tells_nothing _ c.args.out_of_range n c.args.store.now c.args.world.now c.if-not-out_of_range.true

pub returns-in-Ok : goal.returns-in-Ok
returns-in-Ok g c = λ n.
    tells_goes _ c.args.out_of_range n c.args.store.now c.args.world.now c.judged.new.world c.if-not-out_of_range.false
    c.in_ok-call.call c.in_ok-call.ensures c.in-Ok.field-0 (c.in-Ok.ensures n)

pub returns : goal.returns
returns g c = λ n.
    tells_off _ c.args.out_of_range n c.args.store.now c.args.world.now c.judged.new.world c.if-not-out_of_range.false
    c.in_ok-call.call c.in_ok-call.ensures c.in-Err.halt (c.in-Err.ensures n)
