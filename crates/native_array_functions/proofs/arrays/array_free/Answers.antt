use Rattle.mql_meaning.specs.Natives.{frees}
use Rattle.native_arguments.specs.Arguments.{all_shown}
use Rattle.native_arguments.proofs.Shapes.{one_array_none, one_array_some}
use Rattle.native_array_functions.proofs.arrays.array_free.Goals as goal

pub returns-in-Some : goal.returns-in-Some
returns-in-Some c =
    one_array_some frees
    (all_shown c.args.arguments.now) _ _ c.args.store.now c.in-Some.ensures c.freed.ensures

pub returns-in-None : goal.returns-in-None
returns-in-None c = one_array_none frees (all_shown c.args.arguments.now) c.args.store.now c.in-None.ensures
