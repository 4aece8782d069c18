use Rattle.std.proofs.Common.{[], ◌∷◌, refl}
use Rattle.mql_scope.specs.Places.{context_at}
use Rattle.mql_expressions.specs.Views.{node_of}
use Rattle.mql_expressions.specs.Rules.{rule, new_of_no_class, unrelated_pointers, this_outside, braces_alone, series_flag, branches_differ}
use Rattle.mql_expressions.proofs.Steps.{one_more}
use Rattle.mql_expressions.proofs.lowest.lowest_of_others.Goals as goal

pub returns : goal.returns
returns g c =
    let x = context_at g.P.ProgramFacts.program c.args.here.now in
    let n = node_of c.args.n.now in
    let from_39 = rule 39 branches_differ ∷ [] in
    let from_38 = rule 38 series_flag ∷ from_39 in
    let from_35 = rule 35 braces_alone ∷ from_38 in
    let from_30 = rule 30 this_outside ∷ from_35 in
    let from_29 = rule 29 unrelated_pointers ∷ from_30 in
    one_more x n (rule 27 new_of_no_class) from_29 _ _ _ (c.is_new.ensures)
    (one_more x n (rule 29 unrelated_pointers) from_30 _ _ _ (c.on_pointer.ensures)
    (one_more x n (rule 30 this_outside) from_35 _ _ _ (c.is_this.ensures)
    (one_more x n (rule 35 braces_alone) from_38 _ _ _ (c.is_braces.ensures)
    (one_more x n (rule 38 series_flag) from_39 _ _ _ (c.series_flag.ensures)
    (one_more x n (rule 39 branches_differ) [] _ _ _ (c.branches_differ.ensures x)
    refl c.broken-from_branches.ensures) c.broken-from_series.ensures) c.broken-from_braces.ensures) c.broken-from_this.ensures) c.broken-from_pointers.ensures) c.broken.ensures
