use Rattle.std.proofs.Common.{◌≡◌, take}
use Rattle.std.specs.List.{flat_map}
use Rattle.mql_names.specs.Maps.{meaning}
use Rattle.mql_names.specs.Faults.{told}
use Rattle.mql_parents.specs.Maps.{parent_at}
use Rattle.mql_parents.specs.Parents as spec
use Rattle.mql_parents.proofs.rules.items_told.Given as goal

abbrev pub invariant-loop-item : goal.invariant-loop-item
invariant-loop-item l = l.told ≡ told (flat_map (spec.at_item (meaning l.names) (parent_at l.parents) l.most) (take l.item-index l.items))
