use Rattle.std.proofs.Common.{◌≡◌, take}
use Rattle.std.specs.List.{flat_map}
use Rattle.mql_names.specs.Maps.{meaning}
use Rattle.mql_names.specs.Things.{item_things}
use Rattle.mql_names.specs.Rules.{told_of}
use Rattle.mql_names.proofs.items.items_told.Given as goal

abbrev pub invariant-loop-item : goal.invariant-loop-item
invariant-loop-item l = l.told ≡ told_of (meaning l.names) (flat_map (item_things (meaning l.names)) (take l.item-index l.items))
