use Rattle.std.proofs.Common.{take}
use Rattle.std.specs.List.{flat_map}
use Rattle.mql_parents.specs.Parents.{item_derived}
use Rattle.mql_parents.specs.Maps.{Holds}
use Rattle.mql_parents.proofs.known.parents_of.Given as goal

abbrev pub invariant-loop-item : goal.invariant-loop-item
invariant-loop-item l = Holds l.parents (flat_map item_derived (take l.item-index l.items))
