use Rattle.std.proofs.Common.{◌≡◌, length}
use Rattle.mql_statements.specs.Rules.{stands_in}
use Rattle.mql_statements.proofs.labels.stands_in.Given as goal

abbrev pub invariant-loop-rest : goal.invariant-loop-rest
invariant-loop-rest l =
    stands_in l.kind l.label l.rest ≡ stands_in l.kind l.label l.labels

abbrev pub decreases-loop-rest : goal.decreases-loop-rest
decreases-loop-rest l = length l.rest
