use Rattle.std.proofs.Common.{◌≡◌, ◌++◌, length}
use Rattle.std.specs.List.{filter_map}
use Rattle.desk.specs.Effect.{stop_of}
use Rattle.desk.proofs.fired.stops.Given as goal

abbrev pub invariant-loop-position : goal.invariant-loop-position
invariant-loop-position l = l.stops.items ++ filter_map (stop_of l.quote) l.rest ≡ filter_map (stop_of l.quote) l.positions

abbrev pub decreases-loop-position : goal.decreases-loop-position
decreases-loop-position l = length l.rest
