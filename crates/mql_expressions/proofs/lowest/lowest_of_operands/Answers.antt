use Rattle.std.proofs.Common.{[], ◌∷◌, refl}
use Rattle.mql_scope.specs.Places.{context_at}
use Rattle.mql_expressions.specs.Views.{node_of}
use Rattle.mql_expressions.specs.Rules.{rule, input_changed, left_no_place, no_conversion, no_number, double_bits, structures_compared, condition_no_number}
use Rattle.mql_expressions.proofs.Steps.{one_more}
use Rattle.mql_expressions.proofs.lowest.lowest_of_operands.Goals as goal

pub returns : goal.returns
returns g c =
    let x = context_at g.P.ProgramFacts.program c.args.here.now in
    let n = node_of c.args.n.now in
    let from_17 = rule 17 condition_no_number ∷ [] in
    let from_16 = rule 16 structures_compared ∷ from_17 in
    let from_15 = rule 15 double_bits ∷ from_16 in
    let from_14 = rule 14 no_number ∷ from_15 in
    let from_13 = rule 13 no_conversion ∷ from_14 in
    let from_12 = rule 12 left_no_place ∷ from_13 in
    one_more x n (rule 11 input_changed) from_12 _ _ _ (c.input_changed.ensures x)
    (one_more x n (rule 12 left_no_place) from_13 _ _ _ (c.left_no_place.ensures x)
    (one_more x n (rule 13 no_conversion) from_14 _ _ _ (c.in_ok-unfit.ensures)
    (one_more x n (rule 14 no_number) from_15 _ _ _ (c.no_number.ensures x)
    (one_more x n (rule 15 double_bits) from_16 _ _ _ (c.double_bits.ensures x)
    (one_more x n (rule 16 structures_compared) from_17 _ _ _ (c.structures_compared.ensures x)
    (one_more x n (rule 17 condition_no_number) [] _ _ _ (c.condition_no_number.ensures x)
    refl c.broken-from_seventeen.ensures) c.broken-from_sixteen.ensures) c.broken-from_fifteen.ensures) c.broken-from_fourteen.ensures) c.broken-from_thirteen.ensures) c.broken-from_twelve.ensures) c.broken.ensures
