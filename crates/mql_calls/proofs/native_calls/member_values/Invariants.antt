use Rattle.std.proofs.Common.{◌≡◌, [], ◌++◌, length}
use Rattle.mql_calls.specs.NativeCalls.{member_values}
use Rattle.mql_calls.proofs.native_calls.member_values.Given as goal

abbrev pub invariant-loop-rest : goal.invariant-loop-rest
invariant-loop-rest l =
    l.values ++ member_values l.rest ≡ member_values l.fn.members

abbrev pub decreases-loop-rest : goal.decreases-loop-rest
decreases-loop-rest l = length l.rest
