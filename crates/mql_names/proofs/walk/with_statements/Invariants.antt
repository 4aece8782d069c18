use Rattle.std.proofs.Common.{◌≡◌, ◌++◌, take}
use Rattle.std.specs.List.{flat_map}
use Rattle.mql_names.specs.Things.{own_names}
use Rattle.mql_names.proofs.walk.with_statements.Given as goal

abbrev pub invariant-loop-s : goal.invariant-loop-s
invariant-loop-s l = l.names ≡ l.fn.names ++ flat_map own_names (take l.s-index l.parts)
