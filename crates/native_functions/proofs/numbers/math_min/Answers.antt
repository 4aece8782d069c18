use Rattle.mql_meaning.specs.MathFunctions.{lesser}
use Rattle.mql_meaning.specs.Natives.{of_numbers}
use Rattle.native_arguments.specs.Arguments.{all_shown}
use Rattle.native_arguments.proofs.Shapes.{two_values_none, two_values_some}
use Rattle.native_functions.proofs.numbers.math_min.Goals as goal

pub returns-in-Some : goal.returns-in-Some
returns-in-Some c = two_values_some (of_numbers lesser) (all_shown c.args.arguments.now) _ _ _ c.args.store.now c.in-Some.ensures c.least.ensures

pub returns-in-None : goal.returns-in-None
returns-in-None c = two_values_none (of_numbers lesser) (all_shown c.args.arguments.now) c.args.store.now c.in-None.ensures
