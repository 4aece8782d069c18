use Rattle.std.proofs.Common.{◌≡◌, ◌++◌, map, take}
use Rattle.mql_statements.specs.Told.{moved}
use Rattle.mql_statements.proofs.told.with_moved.Given as goal

abbrev pub invariant-loop-label : goal.invariant-loop-label
invariant-loop-label l =
    l.labels ≡ l.fn.labels ++ map (moved l.n) (take l.label-index l.more)
