use Rattle.native_arguments.specs.Arguments.{all_shown}
use Rattle.native_calls.proofs.Calling.{comes_asked, comes_computed, comes_fault}
use Rattle.native_calls.proofs.calls.comes_to.Goals as goal

pub returns-then-asks : goal.returns-then-asks
returns-then-asks g c = λ n.
    comes_asked _ c.args.native (all_shown c.args.arguments.now) n c.args.store.now c.args.world.now c.asked.new.world
    c.asks.result c.asks.ensures c.asked.result c.if-asks.true (c.asked.ensures n)

pub returns-in-Ok : goal.returns-in-Ok
returns-in-Ok g c = λ n.
    comes_computed _ c.args.native (all_shown c.args.arguments.now) n c.args.store.now c.args.world.now
    c.asks.result c.asks.ensures c.in-Ok.outcome c.if-asks.false c.in-Ok.ensures

pub returns-in-Err : goal.returns-in-Err
returns-in-Err g c = λ n.
    rw c.halted.ensures
    (comes_fault _ c.args.native (all_shown c.args.arguments.now) n c.args.store.now c.args.world.now
    c.asks.result c.asks.ensures c.in-Err.fault c.if-asks.false c.in-Err.ensures)
