use Rattle.std.proofs.Common.{◌≡◌, length}
use Rattle.mql_sizes.specs.Members.{some_without}
use Rattle.mql_sizes.proofs.enumeration.some_without.Given as goal

abbrev pub invariant-loop-rest : goal.invariant-loop-rest
invariant-loop-rest l = some_without l.rest ≡ some_without l.members

abbrev pub decreases-loop-rest : goal.decreases-loop-rest
decreases-loop-rest l = length l.rest
