use Rattle.std.proofs.Common.{◌≡◌, ◌++◌, length}
use Rattle.mql_typed_statements.specs.Statements.{label_values}
use Rattle.mql_typed_statements.proofs.labels.label_values.Given as goal

abbrev pub invariant-loop-rest : goal.invariant-loop-rest
invariant-loop-rest l =
    l.values ++ label_values l.kind l.rest ≡ label_values l.kind l.labels

abbrev pub decreases-loop-rest : goal.decreases-loop-rest
decreases-loop-rest l = length l.rest
