use Rattle.std.proofs.Common.{◌≡◌, map, take}
use Rattle.std.specs.List.{flat_map}
use Rattle.mql_decls.specs.Makes.{knowing}
use Rattle.mql_decls.specs.Declarations as spec
use Rattle.mql_decls.proofs.maker.Maker.structures.Given as goal

abbrev pub invariant-loop-item : goal.invariant-loop-item
invariant-loop-item l = l.found ≡ flat_map (knowing l.self spec.item_structures) (take l.item-index l.items)
