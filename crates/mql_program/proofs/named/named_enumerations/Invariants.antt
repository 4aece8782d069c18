use Rattle.std.proofs.Common.{◌≡◌, take}
use Rattle.std.specs.List.{flat_map}
use Rattle.mql_program.specs.Programs.{named_enumeration}
use Rattle.mql_program.proofs.named.named_enumerations.Given as goal

abbrev pub invariant-loop-item : goal.invariant-loop-item
invariant-loop-item l = l.enumerations ≡ flat_map named_enumeration (take l.item-index l.items)
