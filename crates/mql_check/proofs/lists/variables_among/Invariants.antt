use Rattle.std.proofs.Common.{◌≡◌, ◌+◌, length}
use Rattle.std.specs.List.{flat_map}
use Rattle.mql_program.specs.Programs.{variables_in}
use Rattle.mql_check.proofs.lists.variables_among.Given as goal

abbrev pub invariant-loop-rest : goal.invariant-loop-rest
invariant-loop-rest l = l.n + length (flat_map variables_in l.rest) ≡ length (flat_map variables_in l.fn.items)

abbrev pub decreases-loop-rest : goal.decreases-loop-rest
decreases-loop-rest l = length l.rest
