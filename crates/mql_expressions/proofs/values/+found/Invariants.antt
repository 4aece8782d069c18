use Rattle.std.proofs.Common.{◌≡◌, take}
use Rattle.mql_scope.specs.Places.{context_at}
use Rattle.mql_expressions.specs.Values.{found_all, founds_of, all_behind}
use Rattle.mql_expressions.proofs.values.+found.Given as goal

abbrev pub invariant-found_all-loop-v : goal.invariant-found_all-loop-v
invariant-found_all-loop-v g l =
    let c = context_at g.P.ProgramFacts.program l.fn.here in
    record {
      context : context_at g.P.ProgramFacts.program l.at ≡ all_behind c (take l.v-index l.values);
      found : l.all ≡ founds_of (found_all c (take l.v-index l.values));
    }
