use Rattle.std.proofs.Common.{◌≡◌, ◌++◌, take}
use Rattle.mql_statement_walk.specs.Walk.{kept_in}
use Rattle.mql_statement_walk.proofs.walk.with_part_types.Given as goal

abbrev pub invariant-loop-t : goal.invariant-loop-t
invariant-loop-t l = l.all ≡ l.fn.types ++ kept_in (take l.t-index l.parts)
