use Rattle.std.proofs.Common.{◌≡◌, length}
use Rattle.mql_calls.specs.NativeCalls.{all_may_lack}
use Rattle.mql_calls.proofs.native_rules.all_may_lack.Given as goal

abbrev pub invariant-loop-rest : goal.invariant-loop-rest
invariant-loop-rest l =
    all_may_lack l.rest ≡ all_may_lack l.fn.parameters

abbrev pub decreases-loop-rest : goal.decreases-loop-rest
decreases-loop-rest l = length l.rest
