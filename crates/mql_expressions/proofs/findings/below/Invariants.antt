use Rattle.std.proofs.Common.{◌≡◌, ◌++◌, length}
use Rattle.mql_expressions.specs.Values.{below}
use Rattle.mql_expressions.proofs.findings.below.Given as goal

abbrev pub invariant-loop-rest : goal.invariant-loop-rest
invariant-loop-rest l = l.inner ++ below l.at l.rest ≡ below l.at l.fn.all

abbrev pub decreases-loop-rest : goal.decreases-loop-rest
decreases-loop-rest l = length l.rest
