use Rattle.std.proofs.Common.{◌≡◌, ◌++◌, length}
use Rattle.mql_statements.specs.Told.{evaluated}
use Rattle.mql_statements.proofs.told.evaluated.Given as goal

abbrev pub invariant-loop-e : goal.invariant-loop-e
invariant-loop-e l =
    l.made ++ evaluated l.line l.rest ≡ evaluated l.line l.fn.expressions

abbrev pub decreases-loop-e : goal.decreases-loop-e
decreases-loop-e l = length l.rest
