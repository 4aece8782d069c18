use Rattle.std.proofs.Common.{◌≡◌, [], ◌++◌, length}
use Rattle.mql_calls.specs.Calls.{handed_over}
use Rattle.mql_calls.proofs.made.with_defaults.Given as goal

abbrev pub invariant-loop-rest : goal.invariant-loop-rest
invariant-loop-rest g l =
    l.parts ++ handed_over ((g.P.ProgramFacts.program l.program).default l.function) l.k l.rest []
    ≡ l.fn.before ++ handed_over ((g.P.ProgramFacts.program l.fn.program).default l.fn.function) l.fn.first l.fn.parameters []

abbrev pub decreases-loop-rest : goal.decreases-loop-rest
decreases-loop-rest g l = length l.rest
