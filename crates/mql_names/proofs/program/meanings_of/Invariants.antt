use Rattle.std.proofs.Common.{take}
use Rattle.std.specs.List.{flat_map}
use Rattle.mql_names.specs.Maps.{Means}
use Rattle.mql_names.specs.Meanings.{item_meanings}
use Rattle.mql_names.proofs.program.meanings_of.Given as goal

abbrev pub invariant-loop-item : goal.invariant-loop-item
invariant-loop-item l = Means l.names (flat_map item_meanings (take l.item-index l.items))
