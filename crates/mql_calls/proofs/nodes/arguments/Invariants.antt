use Rattle.std.proofs.Common.{◌≡◌, length}
use Rattle.mql_calls.specs.Nodes.{arguments}
use Rattle.mql_calls.proofs.Parts.{behind}
use Rattle.mql_calls.proofs.nodes.arguments.Given as goal

abbrev pub invariant-loop-rest : goal.invariant-loop-rest
invariant-loop-rest l =
    behind l.given (arguments l.rest) ≡ arguments l.fn.infos

abbrev pub decreases-loop-rest : goal.decreases-loop-rest
decreases-loop-rest l = length l.rest
