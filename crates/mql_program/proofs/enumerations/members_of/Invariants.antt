use Rattle.std.proofs.Common.{◌≡◌, ◌++◌, length, pos}
use Rattle.mql_program.specs.Programs.{members_from}
use Rattle.mql_program.proofs.enumerations.members_of.Given as goal

abbrev pub invariant-loop-rest : goal.invariant-loop-rest
invariant-loop-rest g l =
    l.members ++ members_from (g.P.ProgramFacts.program l.program) l.next l.rest
    ≡ members_from (g.P.ProgramFacts.program l.fn.program) (pos 0) l.fn.enumerators

abbrev pub decreases-loop-rest : goal.decreases-loop-rest
decreases-loop-rest g l = length l.rest
