use Rattle.std.proofs.Common.{rules, FitsSigned, to_z, of_z}
use Rattle.std.specs.Int.{w128}
use Rattle.std.proofs.lemmas.Int.{to_z-of_z}
use Rattle.mql_meaning.specs.Changes.{then_some}
use Rattle.mql_meaning.specs.StringFunctions.{place_in}
use Rattle.mql_meaning.specs.ArrayFunctions.{range}
use Rattle.mql_meaning.specs.Natives.{gives, in_range, whole}
use Rattle.native_arguments.specs.Arguments.{all_shown, parts_of}
use Rattle.native_arguments.proofs.Shapes.{array_number_none}
use Rattle.native_array_functions.proofs.Passed.{array_number_passed}
use Rattle.native_array_functions.proofs.arrays.array_range.Goals as goal

pub returns-in-Some : goal.returns-in-Some
returns-in-Some c =
    let g : FitsSigned w128 c.in-Some.second = search rules in
    array_number_passed (λ a d. in_range (whole 0) (then_some (place_in d 3) (λ k. range k a.unit a.cells))
    (λ n. gives (whole n)))
    (all_shown c.args.arguments.now) (parts_of c.in-Some.first)
    c.in-Some.second (to_z w128 (of_z w128 c.in-Some.second))
    c.dimension_count.result c.args.store.now c.in-Some.ensures (to_z-of_z w128 c.in-Some.second g)
    c.dimension_count.ensures

pub returns-in-None : goal.returns-in-None
returns-in-None c =
    array_number_none (λ a d. in_range (whole 0) (then_some (place_in d 3) (λ k. range k a.unit a.cells))
    (λ n. gives (whole n)))
    (all_shown c.args.arguments.now) c.args.store.now c.in-None.ensures
