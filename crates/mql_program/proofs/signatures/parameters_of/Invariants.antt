use Rattle.std.proofs.Common.{◌≡◌, ◌++◌, length}
use Rattle.mql_program.specs.Lists.{all_lent}
use Rattle.mql_program.specs.Programs.{parameters_from}
use Rattle.mql_program.specs.Tables.{types_in}
use Rattle.mql_program.proofs.signatures.parameters_of.Given as goal

abbrev pub invariant-loop-rest : goal.invariant-loop-rest
invariant-loop-rest g l =
    l.parameters ++ parameters_from (types_in g.S.SourceFacts.given l.types) (all_lent l.announced) l.f l.place l.rest
    ≡ parameters_from (types_in g.S.SourceFacts.given l.types) (all_lent l.announced) l.f 0 l.f.params

abbrev pub decreases-loop-rest : goal.decreases-loop-rest
decreases-loop-rest g l = length l.rest
