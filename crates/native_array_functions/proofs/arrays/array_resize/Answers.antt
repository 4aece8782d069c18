use Rattle.std.proofs.Common.{rules, FitsSigned, to_z, of_z}
use Rattle.std.specs.Int.{w128}
use Rattle.std.proofs.lemmas.Int.{to_z-of_z}
use Rattle.mql_meaning.specs.Natives.{resizes}
use Rattle.native_arguments.specs.Arguments.{all_shown, parts_of}
use Rattle.native_arguments.proofs.Shapes.{array_two_numbers_none}
use Rattle.native_array_functions.proofs.Passed.{array_two_numbers_passed}
use Rattle.native_array_functions.proofs.arrays.array_resize.Goals as goal

pub returns-in-Some : goal.returns-in-Some
returns-in-Some c =
    let g : FitsSigned w128 c.in-Some.second = search rules in
    array_two_numbers_passed (λ a n reserve. resizes a n) (all_shown c.args.arguments.now)
    (parts_of c.in-Some.first) c.in-Some.second _ (to_z w128 (of_z w128 c.in-Some.second))
    c.with_size.result c.args.store.now c.in-Some.ensures (to_z-of_z w128 c.in-Some.second g)
    c.with_size.ensures

pub returns-in-None : goal.returns-in-None
returns-in-None c =
    array_two_numbers_none (λ a n reserve. resizes a n)
    (all_shown c.args.arguments.now) c.args.store.now c.in-None.ensures
