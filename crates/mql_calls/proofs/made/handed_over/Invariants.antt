use Rattle.std.proofs.Common.{◌≡◌, [], ◌++◌, length}
use Rattle.mql_calls.specs.Calls.{handed_over}
use Rattle.mql_calls.specs.Nodes.{all_kept}
use Rattle.mql_calls.proofs.made.handed_over.Given as goal

abbrev pub invariant-loop-rest : goal.invariant-loop-rest
invariant-loop-rest g l =
    (l.out.parts ++ handed_over ((g.P.ProgramFacts.program l.program).default l.function) l.k l.rest l.left
    ≡ handed_over ((g.P.ProgramFacts.program l.fn.program).default l.fn.function) 0 l.fn.parameters l.fn.infos)
    × (l.out.kept ++ all_kept l.left ≡ all_kept l.fn.infos)

abbrev pub decreases-loop-rest : goal.decreases-loop-rest
decreases-loop-rest g l = length l.rest
