use Rattle.fx8.specs.Doubles.{normalized}
use Rattle.mql_meaning.specs.Changes.{◌>>=◌}
use Rattle.mql_meaning.specs.Operators.{no_fault}
use Rattle.mql_meaning.specs.StringFunctions.{decimals_of}
use Rattle.mql_meaning.specs.Natives.{gives_double}
use Rattle.native_arguments.specs.Arguments.{all_shown}
use Rattle.native_arguments.proofs.Shapes.{double_number_none}
use Rattle.native_functions.proofs.numbers.normalize_double.Goals as goal

pub returns-in-None : goal.returns-in-None
returns-in-None c = double_number_none (λ x digits. no_fault (normalized (decimals_of digits) x) >>= gives_double) (all_shown c.args.arguments.now) c.args.store.now c.in-None.ensures
