use Rattle.std.proofs.Common.{sym}
use Rattle.mql_meaning.specs.Places.{with_own, with_part}
use Rattle.store_places.proofs.Changed.{changed_put}
use Rattle.store_places.proofs.puts.put_slots.Goals as goal

pub returns-in-Some : goal.returns-in-Some
returns-in-Some c =
    changed_put c.args.slots.now c.args.i (with_own (with_part c.args.path.now c.args.new)) c.in-Some.slot.now
    c.put_slot.new.slot (sym c.in-Some.ensures.value) c.put_slot.ensures
