use Rattle.std.proofs.Common.{◌≡◌, length}
use Rattle.mql_names.specs.Faults.{sooner, told}
use Rattle.mql_program.specs.Lists.{all_lent}
use Rattle.mql_check.specs.Programs.{unmet_from}
use Rattle.mql_check.proofs.program.unmet_from.Given as goal

abbrev pub invariant-loop-rest : goal.invariant-loop-rest
invariant-loop-rest l =
    sooner l.all (told (unmet_from l.used l.n (all_lent l.rest)))
    ≡ told (unmet_from l.used l.fn.first (all_lent l.fn.functions))

abbrev pub decreases-loop-rest : goal.decreases-loop-rest
decreases-loop-rest l = length l.rest
