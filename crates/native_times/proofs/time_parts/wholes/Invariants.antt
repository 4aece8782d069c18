use Rattle.std.specs.Prelude.{◌≡◌, map, take}
use Rattle.mql_meaning.specs.Natives.{whole}
use Rattle.native_times.proofs.time_parts.wholes.Given as goal

abbrev pub invariant-loop-count : goal.invariant-loop-count
invariant-loop-count l = l.values ≡ map whole (take l.count-index l.counts)
