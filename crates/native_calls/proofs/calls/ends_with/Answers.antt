use Rattle.std.specs.Prelude.{map}
use Rattle.store_frames.specs.Operands.{shown}
use Rattle.mql_meaning.specs.Calls.{places_in}
use Rattle.native_calls.proofs.Calling.{ends_fault, ends_off, ends_told}
use Rattle.native_calls.proofs.calls.ends_with.Goals as goal

pub returns-in-Err : goal.returns-in-Err
returns-in-Err g c = λ n.
    rw c.halted.ensures
    (ends_fault _ (places_in (map shown c.args.operands.now)) c.args.outcome n c.args.store.now c.put_counted.new.store
    c.args.world.now c.in-Err.fault c.in-Err.ensures)

pub returns-in-Ok-tells : goal.returns-in-Ok-tells
returns-in-Ok-tells g c = λ n.
    ends_told _ (places_in (map shown c.args.operands.now)) c.args.outcome n c.args.store.now c.put_counted.new.store
    c.args.world.now c.tells.new.world c.in-Ok.ensures (c.in-Ok-tells.ensures n)

pub returns-in-Err-tells : goal.returns-in-Err-tells
returns-in-Err-tells g c = λ n.
    ends_off _ (places_in (map shown c.args.operands.now)) c.args.outcome n c.args.store.now c.put_counted.new.store
    c.args.world.now c.in-Err-tells.halt c.tells.new.world c.in-Ok.ensures (c.in-Err-tells.ensures n)
