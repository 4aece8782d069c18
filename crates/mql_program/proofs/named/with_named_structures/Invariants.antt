use Rattle.std.proofs.Common.{◌≡◌, ◌++◌, take}
use Rattle.std.specs.List.{flat_map}
use Rattle.mql_program.specs.Programs.{named_structure}
use Rattle.mql_program.proofs.named.with_named_structures.Given as goal

abbrev pub invariant-loop-item : goal.invariant-loop-item
invariant-loop-item l = l.layouts ≡ l.fn.layouts ++ flat_map named_structure (take l.item-index l.items)
