use Rattle.std.proofs.Common.{◌≡◌, ◌∷◌, ◌++◌, length, map}
use Rattle.mql_calls.specs.NativeCalls.{as_text}
use Rattle.mql_calls.specs.Nodes.{all_kept}
use Rattle.mql_calls.proofs.native_calls.with_texts.Given as goal

abbrev pub invariant-loop-i : goal.invariant-loop-i
invariant-loop-i l =
    (l.out.parts ++ map as_text l.left ≡ l.fn.before.parts ++ map as_text (l.fn.first ∷ l.fn.infos))
    × (l.out.kept ++ all_kept l.left ≡ l.fn.before.kept ++ all_kept (l.fn.first ∷ l.fn.infos))

abbrev pub decreases-loop-i : goal.decreases-loop-i
decreases-loop-i l = length l.left
