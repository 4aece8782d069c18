use Rattle.std.proofs.Common.{◌≡◌, None, length}
use Rattle.mql_calls.specs.Nodes.{passes, told}
use Rattle.mql_calls.specs.NativeCalls.{takes_native}
use Rattle.mql_calls.proofs.native_rules.takes_native.Given as goal

abbrev pub invariant-loop-rest : goal.invariant-loop-rest
invariant-loop-rest l =
    passes (takes_native l.qs l.before) (told l.rest)
    ≡ passes (takes_native l.fn.parameters None) (told l.fn.parts)

abbrev pub decreases-loop-rest : goal.decreases-loop-rest
decreases-loop-rest l = length l.rest
