use Rattle.std.proofs.Common.{◌≡◌, length}
use Rattle.mql_typed_statements.specs.Statements.{default_place}
use Rattle.mql_typed_statements.proofs.labels.default_place.Given as goal

abbrev pub invariant-loop-rest : goal.invariant-loop-rest
invariant-loop-rest l =
    default_place l.end l.rest ≡ default_place l.end l.labels

abbrev pub decreases-loop-rest : goal.decreases-loop-rest
decreases-loop-rest l = length l.rest
