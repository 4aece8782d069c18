use Rattle.std.proofs.Common.{◌≡◌, length}
use Rattle.mql_check.specs.Programs.{is_number_in}
use Rattle.mql_check.proofs.program.is_number_in.Given as goal

abbrev pub invariant-loop-rest : goal.invariant-loop-rest
invariant-loop-rest l = is_number_in l.n l.rest ≡ is_number_in l.n l.fn.numbers

abbrev pub decreases-loop-rest : goal.decreases-loop-rest
decreases-loop-rest l = length l.rest
