use Rattle.std.proofs.Common.{◌≡◌, length}
use Rattle.mql_calls.specs.Nodes.{told, arguments_in}
use Rattle.mql_calls.proofs.Parts.{behind}
use Rattle.mql_calls.proofs.nodes.arguments_of.Given as goal

abbrev pub invariant-loop-rest : goal.invariant-loop-rest
invariant-loop-rest l =
    behind l.given (arguments_in (told l.rest)) ≡ arguments_in (told l.fn.parts)

abbrev pub decreases-loop-rest : goal.decreases-loop-rest
decreases-loop-rest l = length l.rest
