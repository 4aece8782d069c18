use Rattle.std.proofs.Common.{◌≡◌, length}
use Rattle.mql_names.specs.Maps.{meaning}
use Rattle.mql_program.specs.Lists.{all_lent}
use Rattle.mql_program.specs.Programs.{stands_among}
use Rattle.mql_program.proofs.functions.stands_among.Given as goal

abbrev pub invariant-loop-rest : goal.invariant-loop-rest
invariant-loop-rest l =
    stands_among (meaning l.names) l.f (all_lent l.rest) ≡ stands_among (meaning l.names) l.f (all_lent l.known)

abbrev pub decreases-loop-rest : goal.decreases-loop-rest
decreases-loop-rest l = length l.rest
