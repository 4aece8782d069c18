use Rattle.mql_meaning.specs.Changes.{◌>>=◌}
use Rattle.mql_meaning.specs.Operators.{no_fault}
use Rattle.mql_meaning.specs.MathFunctions.{rest_of}
use Rattle.mql_meaning.specs.Natives.{gives_double}
use Rattle.native_arguments.specs.Arguments.{all_shown}
use Rattle.native_arguments.proofs.Shapes.{two_doubles_none}
use Rattle.native_functions.proofs.numbers.math_mod.Goals as goal

pub returns-in-None : goal.returns-in-None
returns-in-None c = two_doubles_none (λ x y. no_fault (rest_of x y) >>= gives_double) (all_shown c.args.arguments.now) c.args.store.now c.in-None.ensures
