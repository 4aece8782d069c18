use Rattle.std.proofs.Common.{rules, FitsSigned, to_z, of_z}
use Rattle.std.specs.Int.{w128}
use Rattle.std.proofs.lemmas.Int.{to_z-of_z}
use Rattle.mql_meaning.specs.Natives.{to_structure}
use Rattle.store_places.specs.Seen.{seen}
use Rattle.native_arguments.specs.Arguments.{all_shown}
use Rattle.native_arguments.proofs.Shapes.{number_cell_none}
use Rattle.native_times.proofs.Structures.{number_cell_passed}
use Rattle.native_times.proofs.times.time_to_struct.Goals as goal

pub returns-in-Some : goal.returns-in-Some
returns-in-Some c =
    let f : FitsSigned w128 c.in-Some.first = search rules in
    number_cell_passed to_structure (all_shown c.args.arguments.now) c.in-Some.first
    (to_z w128 (of_z w128 c.in-Some.first)) (seen c.in-Some.second) c.to_structure.result c.args.store.now
    c.in-Some.ensures (to_z-of_z w128 c.in-Some.first f) c.to_structure.ensures

pub returns-in-None : goal.returns-in-None
returns-in-None c = number_cell_none to_structure (all_shown c.args.arguments.now) c.args.store.now c.in-None.ensures
