use Rattle.std.proofs.Common.{◌≡◌, take}
use Rattle.std.specs.List.{flat_map}
use Rattle.mql_names.specs.Maps.{meaning}
use Rattle.mql_names.specs.Faults.{told}
use Rattle.mql_names.specs.Rules.{event_breaks}
use Rattle.mql_names.proofs.rules.events_told.Given as goal

abbrev pub invariant-loop-item : goal.invariant-loop-item
invariant-loop-item l = l.told ≡ told (flat_map (event_breaks (meaning l.names)) (take l.item-index l.items))
