use Rattle.std.proofs.Common.{◌≡◌, ◌++◌, length}
use Rattle.mql_check.proofs.inputs.copied.Given as goal

abbrev pub invariant-loop-rest : goal.invariant-loop-rest
invariant-loop-rest l = l.all ++ l.rest ≡ l.fn.members

abbrev pub decreases-loop-rest : goal.decreases-loop-rest
decreases-loop-rest l = length l.rest
