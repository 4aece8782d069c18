use Rattle.std.proofs.Common.{[], ◌∷◌, refl}
use Rattle.mql_scope.specs.Places.{context_at}
use Rattle.mql_expressions.specs.Views.{node_of}
use Rattle.mql_expressions.specs.Rules.{rule, unknown_name, unknown_member, not_accessible}
use Rattle.mql_expressions.proofs.Steps.{one_more}
use Rattle.mql_expressions.proofs.lowest.lowest_of_names.Goals as goal

pub returns : goal.returns
returns g c =
    let x = context_at g.P.ProgramFacts.program c.args.here.now in
    let n = node_of c.args.n.now in
    let from_3 = rule 3 not_accessible ∷ [] in
    let from_2 = rule 2 unknown_member ∷ from_3 in
    one_more x n (rule 1 unknown_name) from_2 _ _ _ (c.in_ok-one.ensures)
    (one_more x n (rule 2 unknown_member) from_3 _ _ _ (c.unknown_member-two.ensures)
    (one_more x n (rule 3 not_accessible) [] _ _ _ (c.not_accessible-three.ensures)
    refl c.broken-from_three.ensures) c.broken-from_two.ensures) c.broken.ensures
