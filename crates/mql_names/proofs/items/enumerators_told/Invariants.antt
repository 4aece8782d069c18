use Rattle.std.proofs.Common.{◌≡◌, take}
use Rattle.std.specs.List.{flat_map}
use Rattle.mql_names.specs.Maps.{meaning}
use Rattle.mql_names.specs.Things.{enumerator_things}
use Rattle.mql_names.specs.Rules.{told_of}
use Rattle.mql_names.proofs.items.enumerators_told.Given as goal

abbrev pub invariant-loop-enumerator : goal.invariant-loop-enumerator
invariant-loop-enumerator l = l.told ≡ told_of (meaning l.names) (flat_map enumerator_things (take l.enumerator-index l.enumerators))
