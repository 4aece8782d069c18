use Rattle.std.proofs.Common.{◌≡◌, length, is_some}
use Rattle.mql_calls.specs.Nodes.{told}
use Rattle.mql_calls.proofs.nodes.are_told.Given as goal

abbrev pub invariant-loop-rest : goal.invariant-loop-rest
invariant-loop-rest l =
    is_some (told l.rest) ≡ is_some (told l.fn.parts)

abbrev pub decreases-loop-rest : goal.decreases-loop-rest
decreases-loop-rest l = length l.rest
