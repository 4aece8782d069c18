use Rattle.std.proofs.Common.{◌≡◌, ◌++◌, length, map}
use Rattle.mql_check.specs.Functions.{param_type}
use Rattle.mql_check.proofs.params.param_types.Given as goal

abbrev pub invariant-loop-rest : goal.invariant-loop-rest
invariant-loop-rest g l =
    let p = g.P.ProgramFacts.program l.fn.program in
    l.all ++ map (param_type p) l.rest ≡ map (param_type p) l.fn.params

abbrev pub decreases-loop-rest : goal.decreases-loop-rest
decreases-loop-rest g l = length l.rest
