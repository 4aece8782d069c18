use Rattle.std.proofs.Common.{◌≡◌, [], ◌++◌, length}
use Rattle.mql_calls.specs.Nodes.{all_kept}
use Rattle.mql_calls.proofs.handed.with_kept.Given as goal

abbrev pub invariant-loop-i : goal.invariant-loop-i
invariant-loop-i l =
    l.all ++ all_kept l.left ≡ l.fn.kept ++ all_kept l.fn.infos

abbrev pub decreases-loop-i : goal.decreases-loop-i
decreases-loop-i l = length l.left
