use Rattle.std.proofs.Common.{◌≡◌, ◌++◌, length}
use Rattle.std.specs.List.{flat_map}
use Rattle.mql_check.specs.Functions.{param_used}
use Rattle.mql_check.proofs.params.params_used.Given as goal

abbrev pub invariant-loop-rest : goal.invariant-loop-rest
invariant-loop-rest g l =
    let p = g.P.ProgramFacts.program l.fn.program in
    l.all ++ flat_map (param_used p) l.rest ≡ flat_map (param_used p) l.fn.params

abbrev pub decreases-loop-rest : goal.decreases-loop-rest
decreases-loop-rest g l = length l.rest
