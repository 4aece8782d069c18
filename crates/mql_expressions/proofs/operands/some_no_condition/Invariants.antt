use Rattle.std.proofs.Common.{◌≡◌, length}
use Rattle.mql_calls.specs.Nodes.{some_part}
use Rattle.mql_expressions.specs.Rules.{no_condition}
use Rattle.mql_expressions.proofs.operands.some_no_condition.Given as goal

abbrev pub invariant-loop-rest : goal.invariant-loop-rest
invariant-loop-rest l = some_part no_condition l.rest ≡ some_part no_condition l.fn.parts

abbrev pub decreases-loop-rest : goal.decreases-loop-rest
decreases-loop-rest l = length l.rest
