use Rattle.mql_meaning.specs.ArrayFunctions.{size}
use Rattle.mql_meaning.specs.Natives.{gives, whole}
use Rattle.native_arguments.specs.Arguments.{all_shown}
use Rattle.native_arguments.proofs.Shapes.{one_array_none, one_array_some}
use Rattle.native_array_functions.proofs.arrays.array_size.Goals as goal

pub returns-in-Some : goal.returns-in-Some
returns-in-Some c =
    one_array_some (λ a. gives (whole (size a)))
    (all_shown c.args.arguments.now) _ _ c.args.store.now c.in-Some.ensures c.element_count.ensures

pub returns-in-None : goal.returns-in-None
returns-in-None c =
    one_array_none (λ a. gives (whole (size a)))
    (all_shown c.args.arguments.now) c.args.store.now c.in-None.ensures
