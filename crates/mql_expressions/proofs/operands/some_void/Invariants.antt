use Rattle.std.proofs.Common.{◌≡◌, length}
use Rattle.mql_calls.specs.Nodes.{some_part}
use Rattle.mql_calls.specs.Nodes.{is_void}
use Rattle.mql_expressions.proofs.operands.some_void.Given as goal

abbrev pub invariant-loop-rest : goal.invariant-loop-rest
invariant-loop-rest l = some_part is_void l.rest ≡ some_part is_void l.fn.parts

abbrev pub decreases-loop-rest : goal.decreases-loop-rest
decreases-loop-rest l = length l.rest
