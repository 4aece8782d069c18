use Rattle.std.proofs.Common.{◌≡◌, take}
use Rattle.std.specs.List.{flat_map}
use Rattle.mql_names.specs.Maps.{meaning}
use Rattle.mql_names.specs.Things.{dimension_things}
use Rattle.mql_names.specs.Rules.{told_of}
use Rattle.mql_names.proofs.walk.dimensions_told.Given as goal

abbrev pub invariant-loop-dimension : goal.invariant-loop-dimension
invariant-loop-dimension l = l.told ≡ told_of (meaning l.names) (flat_map dimension_things (take l.dimension-index l.dimensions))
