use Rattle.std.proofs.Common.{sym}
use Rattle.mql_meaning.specs.Places.{with_part}
use Rattle.store_places.specs.Puts.{with_local}
use Rattle.store_places.proofs.Changed.{changed_put}
use Rattle.store_places.proofs.puts.put_frames.Goals as goal

pub returns-in-Some : goal.returns-in-Some
returns-in-Some c =
    changed_put c.args.frames.now c.args.i (with_local c.args.local (with_part c.args.path.now c.args.new))
    c.in-Some.frame.now c.put_local.new.frame (sym c.in-Some.ensures.value) c.put_local.ensures
