use Rattle.std.proofs.Common.{◌≡◌, ◌++◌, take, drop, length}
use Rattle.std.specs.List.{flat_map}
use Rattle.mql_nesting.specs.Nesting as spec
use Rattle.mql_names.specs.Faults.{told}
use Rattle.mql_nesting.proofs.nesting.all_nesting.Given as goal

abbrev pub invariant-loop-s : goal.invariant-loop-s
invariant-loop-s l = l.told ≡ told (flat_map (spec.nesting l.structures) (take l.s-index l.structures))
