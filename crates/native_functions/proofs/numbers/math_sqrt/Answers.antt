use Rattle.mql_meaning.specs.Changes.{◌>>=◌}
use Rattle.mql_meaning.specs.MathFunctions.{square_root}
use Rattle.mql_meaning.specs.Natives.{gives_double}
use Rattle.native_arguments.specs.Arguments.{all_shown}
use Rattle.native_arguments.proofs.Shapes.{one_double_none}
use Rattle.native_functions.proofs.numbers.math_sqrt.Goals as goal

pub returns-in-None : goal.returns-in-None
returns-in-None c = one_double_none (λ x. square_root x >>= gives_double) (all_shown c.args.arguments.now) c.args.store.now c.in-None.ensures
