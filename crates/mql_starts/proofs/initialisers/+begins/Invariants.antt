use Rattle.std.proofs.Common.{◌≡◌, drop}
use Rattle.mql_scope.specs.Places.{context_at}
use Rattle.mql_scope.specs.Names.{stands_at}
use Rattle.mql_starts.specs.Starts.{then_begun, behind_begun, stepped_all, begins_list}
use Rattle.mql_starts.proofs.initialisers.+begins.Given as goal

abbrev pub invariant-begins_list-loop-v : goal.invariant-begins_list-loop-v
invariant-begins_list-loop-v g l =
    let c = context_at g.P.ProgramFacts.program l.fn.here in
    let e = stepped_all (stands_at l.fn.stands) l.fn.steps in
    record {
      number : l.k ≡ l.v-index;
      left : then_begun l.begun (begins_list (behind_begun l.begun c) l.fn.q e l.fn.t l.v-index (drop l.v-index l.values))
          ≡ begins_list c l.fn.q e l.fn.t 0 l.fn.values;
    }
