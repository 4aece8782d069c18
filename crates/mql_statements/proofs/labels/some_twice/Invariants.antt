use Rattle.std.proofs.Common.{◌≡◌, length}
use Rattle.mql_statements.specs.Rules.{some_twice}
use Rattle.mql_statements.proofs.labels.some_twice.Given as goal

abbrev pub invariant-loop-rest : goal.invariant-loop-rest
invariant-loop-rest l =
    some_twice l.kind l.rest ≡ some_twice l.kind l.labels

abbrev pub decreases-loop-rest : goal.decreases-loop-rest
decreases-loop-rest l = length l.rest
