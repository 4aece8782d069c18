use Rattle.std.proofs.Common.{◌≡◌, ◌++◌, take, flat_map}
use Rattle.mql_scope.specs.Places.{context_at}
use Rattle.mql_expressions.specs.Values.{broken_in, used_in}
use Rattle.mql_starts.specs.Starts.{loose}
use Rattle.mql_starts.proofs.initialisers.+loose.Given as goal

abbrev pub invariant-with_all_loose-loop-v : goal.invariant-with_all_loose-loop-v
invariant-with_all_loose-loop-v g l =
    let c = context_at g.P.ProgramFacts.program l.fn.here in
    record {
      broken : l.judged.broken ≡ l.fn.before.broken ++ broken_in (flat_map (loose c) (take l.v-index l.values));
      used : l.judged.used ≡ l.fn.before.used ++ used_in (flat_map (loose c) (take l.v-index l.values));
    }
