use Rattle.std.proofs.Common.{◌≡◌, length}
use Rattle.mql_calls.specs.Nodes.{told}
use Rattle.mql_calls.proofs.Parts.{behind}
use Rattle.mql_calls.proofs.nodes.told.Given as goal

abbrev pub invariant-loop-part : goal.invariant-loop-part
invariant-loop-part l =
    behind l.infos (told l.left) ≡ told l.fn.parts

abbrev pub decreases-loop-part : goal.decreases-loop-part
decreases-loop-part l = length l.left
