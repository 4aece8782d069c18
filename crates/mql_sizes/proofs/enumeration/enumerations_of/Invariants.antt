use Rattle.std.proofs.Common.{◌≡◌, ◌++◌, [], drop}
use Rattle.mql_names.specs.Maps.{meaning}
use Rattle.mql_sizes.specs.Members as spec
use Rattle.mql_sizes.specs.Maps.{Holds}
use Rattle.mql_sizes.proofs.enumeration.enumerations_of.Given as goal

abbrev pub invariant-loop-item : goal.invariant-loop-item
invariant-loop-item l =
    (l.found ++ spec.enumerations_of (meaning l.names) (spec.all_members l.found) (drop l.item-index l.items) ≡ spec.enumerations_of (meaning l.names) [] l.items)
    × Holds l.values (spec.all_members l.found)
