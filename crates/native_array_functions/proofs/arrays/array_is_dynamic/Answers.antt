use Rattle.mql_meaning.specs.Natives.{gives, truth_value}
use Rattle.native_arguments.specs.Arguments.{all_shown}
use Rattle.native_arguments.proofs.Shapes.{one_array_none, one_array_some}
use Rattle.native_array_functions.proofs.arrays.array_is_dynamic.Goals as goal

pub returns-in-Some : goal.returns-in-Some
returns-in-Some c =
    one_array_some (λ a. gives (truth_value a.dynamic))
    (all_shown c.args.arguments.now) _ _ c.args.store.now c.in-Some.ensures c.is_dynamic.ensures

pub returns-in-None : goal.returns-in-None
returns-in-None c =
    one_array_none (λ a. gives (truth_value a.dynamic))
    (all_shown c.args.arguments.now) c.args.store.now c.in-None.ensures
