use Rattle.std.proofs.Common.{[], ◌∷◌, refl}
use Rattle.mql_scope.specs.Places.{context_at}
use Rattle.mql_expressions.specs.Views.{node_of}
use Rattle.mql_expressions.specs.Rules.{rule, not_callable, no_overload, fit_equally, wrong_native, reference_no_place, reference_differs, constant_changed}
use Rattle.mql_expressions.proofs.Steps.{one_more}
use Rattle.mql_expressions.proofs.lowest.lowest_of_calls.Goals as goal

pub returns : goal.returns
returns g c =
    let x = context_at g.P.ProgramFacts.program c.args.here.now in
    let n = node_of c.args.n.now in
    let from_10 = rule 10 constant_changed ∷ [] in
    let from_9 = rule 9 reference_differs ∷ from_10 in
    let from_8 = rule 8 reference_no_place ∷ from_9 in
    let from_7 = rule 7 wrong_native ∷ from_8 in
    let from_6 = rule 6 fit_equally ∷ from_7 in
    let from_5 = rule 5 no_overload ∷ from_6 in
    one_more x n (rule 4 not_callable) from_5 _ _ _ (c.not_callable.ensures)
    (one_more x n (rule 5 no_overload) from_6 _ _ _ (c.no_overload.ensures)
    (one_more x n (rule 6 fit_equally) from_7 _ _ _ (c.fit_equally.ensures)
    (one_more x n (rule 7 wrong_native) from_8 _ _ _ (c.wrong_native.ensures)
    (one_more x n (rule 8 reference_no_place) from_9 _ _ _ (c.reference_no_place.ensures)
    (one_more x n (rule 9 reference_differs) from_10 _ _ _ (c.reference_differs.ensures)
    (one_more x n (rule 10 constant_changed) [] _ _ _ (c.constant_changed.ensures)
    refl c.broken-from_ten.ensures) c.broken-from_nine.ensures) c.broken-from_eight.ensures) c.broken-from_seven.ensures) c.broken-from_six.ensures) c.broken-from_five.ensures) c.broken.ensures
