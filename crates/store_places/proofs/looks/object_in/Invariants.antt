use Rattle.std.specs.Prelude.{◌≡◌, drop}
use Rattle.mql_meaning.specs.Places.{object_in}
use Rattle.store_places.proofs.looks.object_in.Given as goal

abbrev pub invariant-loop-object : goal.invariant-loop-object
invariant-loop-object l = object_in l.objects l.serial ≡ object_in (drop l.object-index l.objects) l.serial
