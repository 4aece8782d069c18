use Rattle.std.proofs.Common.{◌≡◌, ◌++◌, length, map}
use Rattle.mql_check.specs.Made.{known_type}
use Rattle.mql_check.proofs.made.known_types.Given as goal

abbrev pub invariant-loop-rest : goal.invariant-loop-rest
invariant-loop-rest l = l.all ++ map known_type l.rest ≡ map known_type l.fn.known

abbrev pub decreases-loop-rest : goal.decreases-loop-rest
decreases-loop-rest l = length l.rest
