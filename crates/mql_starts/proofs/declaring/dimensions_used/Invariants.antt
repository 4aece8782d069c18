use Rattle.std.proofs.Common.{◌≡◌, take, flat_map}
use Rattle.mql_scope.specs.Places.{context_at}
use Rattle.mql_starts.specs.Declarations.{dimension_used}
use Rattle.mql_starts.proofs.declaring.dimensions_used.Given as goal

abbrev pub invariant-loop-d : goal.invariant-loop-d
invariant-loop-d g l =
    l.used ≡ flat_map (dimension_used (context_at g.P.ProgramFacts.program l.fn.here)) (take l.d-index l.fn.v.dimensions)
