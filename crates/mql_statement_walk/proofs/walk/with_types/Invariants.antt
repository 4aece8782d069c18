use Rattle.std.proofs.Common.{◌≡◌, ◌++◌, take}
use Rattle.mql_statement_walk.proofs.walk.with_types.Given as goal

abbrev pub invariant-loop-t : goal.invariant-loop-t
invariant-loop-t l = l.types ≡ l.fn.types ++ take l.t-index l.more
