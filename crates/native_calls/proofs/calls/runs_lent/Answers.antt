use Rattle.std.specs.Prelude.{map}
use Rattle.store_frames.specs.Operands.{shown}
use Rattle.native_calls.proofs.Calling.{runs_goes, runs_off}
use Rattle.native_calls.proofs.calls.runs_lent.Goals as goal

pub returns-in-Ok : goal.returns-in-Ok
returns-in-Ok g c = λ n.
    runs_goes _ c.args.native (map shown c.args.operands.now) c.in-Ok.outcome c.ends_with.result n c.args.store.now
    c.ends_with.new.store c.args.world.now c.outcome.new.world c.ends_with.new.world (c.in-Ok.ensures n)
    (c.ends_with.ensures n)

pub returns-in-Err : goal.returns-in-Err
returns-in-Err g c = λ n.
    runs_off _ c.args.native (map shown c.args.operands.now) c.in-Err.halt n c.args.store.now c.args.world.now
    c.outcome.new.world (c.in-Err.ensures n)
