use Rattle.std.proofs.Common.{◌≡◌, ◌+◌, length}
use Rattle.mql_program.specs.Programs.{defined_functions}
use Rattle.mql_check.proofs.program.defined_among.Given as goal

abbrev pub invariant-loop-rest : goal.invariant-loop-rest
invariant-loop-rest l = l.n + length (defined_functions l.rest) ≡ length (defined_functions l.fn.items)

abbrev pub decreases-loop-rest : goal.decreases-loop-rest
decreases-loop-rest l = length l.rest
