use Rattle.std.proofs.Common.{◌≡◌, length}
use Rattle.mql_names.specs.Faults.{sooner, told}
use Rattle.mql_check.proofs.program.told.Given as goal

abbrev pub invariant-loop-rest : goal.invariant-loop-rest
invariant-loop-rest l = sooner l.first (told l.rest) ≡ told l.fn.all

abbrev pub decreases-loop-rest : goal.decreases-loop-rest
decreases-loop-rest l = length l.rest
