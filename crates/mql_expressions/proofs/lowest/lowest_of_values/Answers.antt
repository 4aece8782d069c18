use Rattle.std.proofs.Common.{[], ◌∷◌, refl}
use Rattle.mql_scope.specs.Places.{context_at}
use Rattle.mql_expressions.specs.Views.{node_of}
use Rattle.mql_expressions.specs.Rules.{rule, void_used, index_no_array, index_no_integer, array_used}
use Rattle.mql_expressions.proofs.Steps.{one_more}
use Rattle.mql_expressions.proofs.lowest.lowest_of_values.Goals as goal

pub returns : goal.returns
returns g c =
    let x = context_at g.P.ProgramFacts.program c.args.here.now in
    let n = node_of c.args.n.now in
    let from_26 = rule 26 array_used ∷ [] in
    let from_25 = rule 25 index_no_integer ∷ from_26 in
    let from_24 = rule 24 index_no_array ∷ from_25 in
    one_more x n (rule 23 void_used) from_24 _ _ _ (c.some_void.ensures)
    (one_more x n (rule 24 index_no_array) from_25 _ _ _ (c.index_no_array.ensures x)
    (one_more x n (rule 25 index_no_integer) from_26 _ _ _ (c.index_no_integer.ensures x)
    (one_more x n (rule 26 array_used) [] _ _ _ (c.array_used.ensures)
    refl c.broken-from_array.ensures) c.broken-from_integer.ensures) c.broken-from_index.ensures) c.broken.ensures
