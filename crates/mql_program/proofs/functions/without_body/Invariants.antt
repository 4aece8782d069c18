use Rattle.std.proofs.Common.{◌≡◌, ◌++◌, length}
use Rattle.mql_names.specs.Maps.{meaning}
use Rattle.mql_program.specs.Lists.{all_lent}
use Rattle.mql_program.specs.Programs.{without_body}
use Rattle.mql_program.proofs.functions.without_body.Given as goal

abbrev pub invariant-loop-rest : goal.invariant-loop-rest
invariant-loop-rest l =
    all_lent l.found ++ without_body (meaning l.names) (all_lent l.defined ++ all_lent l.found) (all_lent l.rest)
    ≡ without_body (meaning l.names) (all_lent l.defined) (all_lent l.announced)

abbrev pub decreases-loop-rest : goal.decreases-loop-rest
decreases-loop-rest l = length l.rest
