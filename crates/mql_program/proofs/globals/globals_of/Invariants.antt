use Rattle.std.proofs.Common.{◌≡◌, ◌++◌, length}
use Rattle.mql_program.specs.Lists.{all_lent}
use Rattle.mql_program.specs.Programs.{globals_from}
use Rattle.mql_program.proofs.globals.globals_of.Given as goal

abbrev pub invariant-loop-rest : goal.invariant-loop-rest
invariant-loop-rest g l =
    l.known ++ globals_from (g.P.ProgramFacts.program l.program) l.number (all_lent l.rest)
    ≡ globals_from (g.P.ProgramFacts.program l.fn.program) 0 (all_lent l.fn.variables)

abbrev pub decreases-loop-rest : goal.decreases-loop-rest
decreases-loop-rest g l = length l.rest
