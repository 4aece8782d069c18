use Rattle.std.proofs.Common.{◌≡◌, drop}
use Rattle.mql_starts.specs.Starts.{all_are_constant}
use Rattle.mql_starts.proofs.initialisers.+are_constant.Given as goal

abbrev pub invariant-all_are_constant-loop-v : goal.invariant-all_are_constant-loop-v
invariant-all_are_constant-loop-v g l =
    all_are_constant (g.P.ProgramFacts.program l.program) l.locals (drop l.v-index l.values)
    ≡ all_are_constant (g.P.ProgramFacts.program l.fn.program) l.fn.locals l.fn.values
