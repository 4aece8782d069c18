use Rattle.std.proofs.Common.{◌≡◌, length}
use Rattle.mql_statements.specs.Rules.{some_no_constant}
use Rattle.mql_statements.proofs.labels.some_no_constant.Given as goal

abbrev pub invariant-loop-rest : goal.invariant-loop-rest
invariant-loop-rest l =
    some_no_constant l.rest ≡ some_no_constant l.labels

abbrev pub decreases-loop-rest : goal.decreases-loop-rest
decreases-loop-rest l = length l.rest
