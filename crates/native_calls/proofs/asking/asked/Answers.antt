use Rattle.native_arguments.specs.Arguments.{all_shown}
use Rattle.native_calls.proofs.Calling.{asked_goes, asked_off}
use Rattle.native_calls.proofs.asking.asked.Goals as goal

pub returns-in-Ok : goal.returns-in-Ok
returns-in-Ok g c = λ n.
    asked_goes _ c.args.native (all_shown c.args.arguments.now) n c.args.store.now c.args.world.now c.judged.new.world
    c.in_ok-call.call c.in_ok-call.ensures c.in-Ok.reply c.in_ok-counts.counts c.in_ok-counts.ensures (c.in-Ok.ensures n)

pub returns-in-Err : goal.returns-in-Err
returns-in-Err g c = λ n.
    asked_off _ c.args.native (all_shown c.args.arguments.now) n c.args.store.now c.args.world.now c.judged.new.world
    c.in_ok-call.call c.in_ok-call.ensures c.in-Err.halt (c.in-Err.ensures n)
