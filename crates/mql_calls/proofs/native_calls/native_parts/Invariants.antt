use Rattle.std.proofs.Common.{◌≡◌, ◌++◌, None, length}
use Rattle.mql_calls.specs.NativeCalls.{native_parts}
use Rattle.mql_calls.specs.Nodes.{all_kept}
use Rattle.mql_calls.proofs.native_calls.native_parts.Given as goal

abbrev pub invariant-loop-qs : goal.invariant-loop-qs
invariant-loop-qs l =
    (l.out.parts ++ native_parts l.qs l.numbers l.before l.left
    ≡ native_parts l.fn.parameters l.fn.numbers None l.fn.infos)
    × (l.out.kept ++ all_kept l.left ≡ all_kept l.fn.infos)

abbrev pub decreases-loop-qs : goal.decreases-loop-qs
decreases-loop-qs l = length l.qs
