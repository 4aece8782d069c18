use Rattle.std.proofs.Common.{◌≡◌, true, is_some, length}
use Rattle.mql_calls.specs.Nodes.{passes, told}
use Rattle.mql_calls.specs.NativeCalls.{lends_fixed}
use Rattle.mql_calls.proofs.native_rules.lends_fixed.Given as goal

abbrev pub invariant-loop-rest : goal.invariant-loop-rest
invariant-loop-rest l =
    (is_some (told l.rest) ≡ true)
    × (passes (lends_fixed l.qs) (told l.rest) ≡ passes (lends_fixed l.fn.parameters) (told l.fn.parts))

abbrev pub decreases-loop-rest : goal.decreases-loop-rest
decreases-loop-rest l = length l.rest
