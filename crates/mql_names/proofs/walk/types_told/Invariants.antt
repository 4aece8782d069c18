use Rattle.std.proofs.Common.{◌≡◌, take}
use Rattle.std.specs.List.{flat_map}
use Rattle.mql_names.specs.Maps.{meaning}
use Rattle.mql_names.specs.Things.{type_things}
use Rattle.mql_names.specs.Rules.{told_of}
use Rattle.mql_names.proofs.walk.types_told.Given as goal

abbrev pub invariant-loop-of : goal.invariant-loop-of
invariant-loop-of l = l.told ≡ told_of (meaning l.names) (flat_map type_things (take l.of-index l.types))
