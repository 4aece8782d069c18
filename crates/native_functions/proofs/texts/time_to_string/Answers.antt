use Rattle.std.proofs.Common.{rules, FitsSigned, to_z, of_z}
use Rattle.std.specs.Int.{w128}
use Rattle.std.proofs.lemmas.Int.{to_z-of_z}
use Rattle.mql_meaning.specs.Natives.{tells_time}
use Rattle.native_arguments.specs.Arguments.{all_shown}
use Rattle.native_arguments.proofs.Shapes.{two_numbers_none}
use Rattle.native_functions.proofs.Passed.{two_numbers_passed}
use Rattle.native_functions.proofs.texts.time_to_string.Goals as goal

pub returns-in-Some : goal.returns-in-Some
returns-in-Some c =
    let f : FitsSigned w128 c.in-Some.first = search rules in
    let g : FitsSigned w128 c.in-Some.second = search rules in
    two_numbers_passed tells_time (all_shown c.args.arguments.now) c.in-Some.first c.in-Some.second
    (to_z w128 (of_z w128 c.in-Some.first)) (to_z w128 (of_z w128 c.in-Some.second)) c.time_text.result
    c.args.store.now c.in-Some.ensures (to_z-of_z w128 c.in-Some.first f) (to_z-of_z w128 c.in-Some.second g)
    c.time_text.ensures

pub returns-in-None : goal.returns-in-None
returns-in-None c = two_numbers_none tells_time (all_shown c.args.arguments.now) c.args.store.now c.in-None.ensures
