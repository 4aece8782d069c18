use Rattle.std.proofs.Common.{◌≡◌, ◌++◌, take, drop, length}
use Rattle.std.specs.List.{flat_map}
use Rattle.mql_nesting.specs.Nesting as spec
use Rattle.mql_nesting.proofs.nesting.all_parts.Given as goal

abbrev pub invariant-loop-name : goal.invariant-loop-name
invariant-loop-name l = l.found ≡ flat_map (spec.parts_of l.structures) (take l.name-index l.names)
