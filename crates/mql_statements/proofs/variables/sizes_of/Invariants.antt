use Rattle.std.proofs.Common.{◌≡◌, ◌++◌, map, take}
use Rattle.mql_statements.specs.Variables.{size_of}
use Rattle.mql_statements.proofs.variables.sizes_of.Given as goal

abbrev pub invariant-loop-dimension : goal.invariant-loop-dimension
invariant-loop-dimension g l =
    l.sizes ≡ map (size_of (g.P.ProgramFacts.program l.program) l.locals) (take l.dimension-index l.dimensions)
