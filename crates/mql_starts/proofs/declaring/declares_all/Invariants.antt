use Rattle.std.proofs.Common.{◌≡◌, ◌++◌, drop}
use Rattle.mql_scope.specs.Places.{context_at}
use Rattle.mql_statements.specs.Told.{then_told, behind_told}
use Rattle.mql_starts.specs.Declarations.{declares_all}
use Rattle.mql_statements.specs.Told.{in_force}
use Rattle.mql_starts.proofs.declaring.declares_all.Given as goal

abbrev pub invariant-loop-v : goal.invariant-loop-v
invariant-loop-v g l =
    let c = in_force (context_at g.P.ProgramFacts.program l.fn.here) l.fn.locals in
    record {
      known : l.known ≡ l.fn.locals ++ l.all.declared;
      left : then_told l.all (declares_all (behind_told l.all c) (drop l.v-index l.variables)) ≡ declares_all c l.fn.variables;
    }
