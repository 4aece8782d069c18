use Rattle.std.proofs.Common.{◌≡◌, [], ◌++◌, length}
use Rattle.mql_calls.specs.NativeCalls.{member_texts}
use Rattle.mql_calls.proofs.native_calls.member_texts.Given as goal

abbrev pub invariant-loop-rest : goal.invariant-loop-rest
invariant-loop-rest l =
    l.texts ++ member_texts l.rest ≡ member_texts l.fn.members

abbrev pub decreases-loop-rest : goal.decreases-loop-rest
decreases-loop-rest l = length l.rest
