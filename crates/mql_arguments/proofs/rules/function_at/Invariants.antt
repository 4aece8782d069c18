use Rattle.std.proofs.Common.{◌≡◌, length}
use Rattle.mql_arguments.specs.Arguments.{function_at}
use Rattle.mql_arguments.proofs.rules.function_at.Given as goal

abbrev pub invariant-loop-rest : goal.invariant-loop-rest
invariant-loop-rest l =
    function_at l.number l.rest ≡ function_at l.fn.number l.fn.functions

abbrev pub decreases-loop-rest : goal.decreases-loop-rest
decreases-loop-rest l = length l.rest
