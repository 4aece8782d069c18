use Rattle.std.proofs.Common.{rules, FitsSigned, to_z, of_z}
use Rattle.std.specs.Int.{w128}
use Rattle.std.proofs.lemmas.Int.{to_z-of_z}
use Rattle.std.specs.Prelude.{int_lt}
use Rattle.mql_meaning.specs.Natives.{extreme}
use Rattle.store_places.specs.Seen.{seen}
use Rattle.native_arguments.specs.Arguments.{all_shown}
use Rattle.native_arguments.proofs.Shapes.{cell_two_numbers_none}
use Rattle.native_array_functions.proofs.Passed.{cell_two_numbers_passed}
use Rattle.native_array_functions.proofs.extremes.array_minimum.Goals as goal

pub returns-in-Some : goal.returns-in-Some
returns-in-Some c =
    let g : FitsSigned w128 c.in-Some.second = search rules in
    let h : FitsSigned w128 c.in-Some.third = search rules in
    cell_two_numbers_passed (extreme (λ y x. int_lt y x))
    (all_shown c.args.arguments.now) (seen c.in-Some.first)
    c.in-Some.second c.in-Some.third
    (to_z w128 (of_z w128 c.in-Some.second)) (to_z w128 (of_z w128 c.in-Some.third))
    c.minimum.result c.args.store.now
    c.in-Some.ensures (to_z-of_z w128 c.in-Some.second g) (to_z-of_z w128 c.in-Some.third h)
    c.minimum.ensures

pub returns-in-None : goal.returns-in-None
returns-in-None c =
    cell_two_numbers_none (extreme (λ y x. int_lt y x))
    (all_shown c.args.arguments.now) c.args.store.now c.in-None.ensures
