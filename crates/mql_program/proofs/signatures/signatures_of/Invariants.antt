use Rattle.std.proofs.Common.{◌≡◌, ◌++◌, length}
use Rattle.mql_program.specs.Lists.{all_lent}
use Rattle.mql_program.specs.Programs.{signatures_from}
use Rattle.mql_program.specs.Tables.{types_in}
use Rattle.mql_program.proofs.signatures.signatures_of.Given as goal

abbrev pub invariant-loop-rest : goal.invariant-loop-rest
invariant-loop-rest g l =
    l.signatures ++ signatures_from (types_in g.S.SourceFacts.given l.types) (all_lent l.announced) l.number (all_lent l.rest)
    ≡ signatures_from (types_in g.S.SourceFacts.given l.types) (all_lent l.announced) 0 (all_lent l.functions)

abbrev pub decreases-loop-rest : goal.decreases-loop-rest
decreases-loop-rest g l = length l.rest
