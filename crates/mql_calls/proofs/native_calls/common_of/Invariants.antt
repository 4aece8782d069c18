use Rattle.std.proofs.Common.{◌≡◌, length}
use Rattle.mql_calls.specs.NativeCalls.{common_of}
use Rattle.mql_calls.proofs.native_calls.common_of.Given as goal

abbrev pub invariant-loop-rest : goal.invariant-loop-rest
invariant-loop-rest l =
    common_of l.b l.rest ≡ common_of l.fn.first l.fn.infos

abbrev pub decreases-loop-rest : goal.decreases-loop-rest
decreases-loop-rest l = length l.rest
