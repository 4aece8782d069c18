use Rattle.std.proofs.Common.{◌≡◌, ◌++◌, length}
use Rattle.mql_check.specs.Functions.{params_known}
use Rattle.mql_check.proofs.params.params_known.Given as goal

abbrev pub invariant-loop-rest : goal.invariant-loop-rest
invariant-loop-rest g l =
    let p = g.P.ProgramFacts.program l.fn.program in
    l.all ++ params_known p l.n l.rest ≡ params_known p 0 l.fn.params

abbrev pub decreases-loop-rest : goal.decreases-loop-rest
decreases-loop-rest g l = length l.rest
