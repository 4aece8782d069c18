use Rattle.mql_meaning.specs.MathFunctions.{size_of}
use Rattle.mql_meaning.specs.Natives.{of_number}
use Rattle.native_arguments.specs.Arguments.{all_shown}
use Rattle.native_arguments.proofs.Shapes.{one_value_none, one_value_some}
use Rattle.native_functions.proofs.numbers.math_abs.Goals as goal

pub returns-in-Some : goal.returns-in-Some
returns-in-Some c = one_value_some (of_number size_of) (all_shown c.args.arguments.now) _ _ c.args.store.now c.in-Some.ensures c.size.ensures

pub returns-in-None : goal.returns-in-None
returns-in-None c = one_value_none (of_number size_of) (all_shown c.args.arguments.now) c.args.store.now c.in-None.ensures
