use Rattle.std.proofs.Common.{rules, FitsSigned, to_z, of_z}
use Rattle.std.specs.Int.{w128}
use Rattle.std.proofs.lemmas.Int.{to_z-of_z}
use Rattle.mql_meaning.specs.Natives.{splits}
use Rattle.native_arguments.specs.Arguments.{all_shown, parts_of}
use Rattle.native_arguments.proofs.Shapes.{string_number_array_none}
use Rattle.native_functions.proofs.Passed.{string_number_array_passed}
use Rattle.native_functions.proofs.strings.string_split.Goals as goal

pub returns-in-Some : goal.returns-in-Some
returns-in-Some c =
    let g : FitsSigned w128 c.in-Some.second = search rules in
    string_number_array_passed splits (all_shown c.args.arguments.now) c.in-Some.first.now c.in-Some.second
    (to_z w128 (of_z w128 c.in-Some.second)) (parts_of c.in-Some.third) c.parts.result c.args.store.now
    c.in-Some.ensures (to_z-of_z w128 c.in-Some.second g) c.parts.ensures

pub returns-in-None : goal.returns-in-None
returns-in-None c = string_number_array_none splits (all_shown c.args.arguments.now) c.args.store.now c.in-None.ensures
