use Rattle.std.proofs.Common.{true, [], ◌∷◌, rules, FitsSigned, to_z, of_z}
use Rattle.std.specs.Int.{w128}
use Rattle.std.proofs.lemmas.Int.{to_z-of_z}
use Rattle.std.specs.Prelude.{not}
use Rattle.fx8.specs.Integers.{is_zero}
use Rattle.mql_meaning.specs.ArrayFunctions.{rebuilt}
use Rattle.mql_meaning.specs.Natives.{gives_with, truth_value}
use Rattle.native_arguments.specs.Arguments.{all_shown, parts_of}
use Rattle.native_arguments.proofs.Shapes.{array_number_none}
use Rattle.native_array_functions.proofs.Passed.{array_number_passed}
use Rattle.native_array_functions.proofs.arrays.array_set_as_series.Goals as goal

pub returns-in-Some : goal.returns-in-Some
returns-in-Some c =
    let g : FitsSigned w128 c.in-Some.second = search rules in
    array_number_passed (λ a flag. gives_with (rebuilt (record a { series = not (is_zero flag) }) ∷ [])
    (truth_value true))
    (all_shown c.args.arguments.now) (parts_of c.in-Some.first)
    c.in-Some.second (to_z w128 (of_z w128 c.in-Some.second))
    c.with_series.result c.args.store.now c.in-Some.ensures (to_z-of_z w128 c.in-Some.second g)
    c.with_series.ensures

pub returns-in-None : goal.returns-in-None
returns-in-None c =
    array_number_none (λ a flag. gives_with (rebuilt (record a { series = not (is_zero flag) }) ∷ [])
    (truth_value true))
    (all_shown c.args.arguments.now) c.args.store.now c.in-None.ensures
