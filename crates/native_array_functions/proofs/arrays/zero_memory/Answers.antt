use Rattle.std.proofs.Common.{[], ◌∷◌}
use Rattle.mql_meaning.specs.ArrayFunctions.{zeroed}
use Rattle.mql_meaning.specs.Natives.{gives_with, void_value}
use Rattle.native_arguments.specs.Arguments.{all_shown}
use Rattle.native_arguments.proofs.Shapes.{one_cell_none, one_cell_some}
use Rattle.native_array_functions.proofs.arrays.zero_memory.Goals as goal

pub returns-in-Some : goal.returns-in-Some
returns-in-Some c =
    one_cell_some (λ c. gives_with (zeroed c ∷ []) void_value)
    (all_shown c.args.arguments.now) _ _ c.args.store.now c.in-Some.ensures c.as_begun.ensures

pub returns-in-None : goal.returns-in-None
returns-in-None c =
    one_cell_none (λ c. gives_with (zeroed c ∷ []) void_value)
    (all_shown c.args.arguments.now) c.args.store.now c.in-None.ensures
