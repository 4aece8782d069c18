use Rattle.std.specs.Prelude.{◌≡◌, ◌+◌, drop}
use Rattle.store_places.specs.Puts.{place_in}
use Rattle.store_places.proofs.puts.place_in.Given as goal

abbrev pub invariant-loop-object : goal.invariant-loop-object
invariant-loop-object l =
    (place_in l.objects l.serial ≡ l.place + place_in (drop l.object-index l.objects) l.serial)
    × (l.place ≡ l.object-index)
