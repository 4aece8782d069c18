use Rattle.std.proofs.Common.{sym}
use Rattle.mql_meaning.specs.Places.{with_part}
use Rattle.store_places.specs.Puts.{object_with}
use Rattle.store_places.proofs.Changed.{changed_put}
use Rattle.store_places.proofs.puts.put_objects.Goals as goal

pub returns-in-Some : goal.returns-in-Some
returns-in-Some c =
    changed_put c.args.objects.now c.args.i (object_with (with_part c.args.path.now c.args.new)) c.in-Some.object.now
    c.put_object.new.object (sym c.in-Some.ensures.value) c.put_object.ensures
