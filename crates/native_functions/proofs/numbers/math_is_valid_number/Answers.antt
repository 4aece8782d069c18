use Rattle.std.proofs.Common.{true}
use Rattle.mql_meaning.specs.Natives.{gives, truth_value}
use Rattle.native_arguments.specs.Arguments.{all_shown}
use Rattle.native_arguments.proofs.Shapes.{one_double_none}
use Rattle.native_functions.proofs.numbers.math_is_valid_number.Goals as goal

pub returns-in-None : goal.returns-in-None
returns-in-None c = one_double_none (λ x. gives (truth_value true)) (all_shown c.args.arguments.now) c.args.store.now c.in-None.ensures
