use Rattle.std.proofs.Common.{◌≡◌, ◌++◌, take, drop, length}
use Rattle.std.specs.List.{flat_map}
use Rattle.mql_nesting.specs.Nesting as spec
use Rattle.mql_nesting.proofs.nesting.within.Given as goal

abbrev pub invariant-loop-left : goal.invariant-loop-left
invariant-loop-left l = spec.within l.structures l.left l.found ≡ spec.within l.structures l.turns l.fn.names

abbrev pub decreases-loop-left : goal.decreases-loop-left
decreases-loop-left l = l.left
