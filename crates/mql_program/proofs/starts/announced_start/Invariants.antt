use Rattle.std.proofs.Common.{◌≡◌, length}
use Rattle.mql_names.specs.Maps.{meaning}
use Rattle.mql_program.specs.Lists.{all_lent}
use Rattle.mql_program.specs.Programs.{announced_start}
use Rattle.mql_program.proofs.starts.announced_start.Given as goal

abbrev pub invariant-loop-rest : goal.invariant-loop-rest
invariant-loop-rest l =
    announced_start (meaning l.names) l.f l.place (all_lent l.rest)
    ≡ announced_start (meaning l.names) l.f l.place (all_lent l.announced)

abbrev pub decreases-loop-rest : goal.decreases-loop-rest
decreases-loop-rest l = length l.rest
