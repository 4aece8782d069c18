use Rattle.std.proofs.Common.{◌≡◌, take}
use Rattle.std.specs.List.{flat_map}
use Rattle.mql_names.specs.Maps.{meaning}
use Rattle.mql_names.specs.Things.{value_things}
use Rattle.mql_names.specs.Rules.{told_of}
use Rattle.mql_names.proofs.walk.+values.Given as goal

abbrev pub invariant-values_told-loop-v : goal.invariant-values_told-loop-v
invariant-values_told-loop-v l = l.told ≡ told_of (meaning l.names) (flat_map value_things (take l.v-index l.values))
