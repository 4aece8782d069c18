use Rattle.std.proofs.Common.{◌≡◌, ◌++◌, length}
use Rattle.mql_typed_statements.specs.Statements.{label_places}
use Rattle.mql_typed_statements.proofs.labels.label_places.Given as goal

abbrev pub invariant-loop-rest : goal.invariant-loop-rest
invariant-loop-rest l =
    l.places ++ label_places l.rest ≡ label_places l.labels

abbrev pub decreases-loop-rest : goal.decreases-loop-rest
decreases-loop-rest l = length l.rest
