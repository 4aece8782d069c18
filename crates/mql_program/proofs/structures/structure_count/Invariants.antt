use Rattle.std.proofs.Common.{◌≡◌, ◌≤◌, ◌+◌, length}
use Rattle.mql_program.specs.Programs.{structure_count}
use Rattle.mql_program.proofs.structures.structure_count.Given as goal

abbrev pub invariant-loop-rest : goal.invariant-loop-rest
invariant-loop-rest l =
    (l.count + structure_count l.rest ≡ structure_count l.fn.items)
    × (l.count + length l.rest ≤ length l.fn.items)

abbrev pub decreases-loop-rest : goal.decreases-loop-rest
decreases-loop-rest l = length l.rest
