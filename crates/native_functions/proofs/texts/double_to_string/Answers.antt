use Rattle.mql_meaning.specs.StringFunctions.{decimals_of, fixed_text}
use Rattle.mql_meaning.specs.Natives.{gives_text}
use Rattle.native_arguments.specs.Arguments.{all_shown}
use Rattle.native_arguments.proofs.Shapes.{double_number_none}
use Rattle.native_functions.proofs.texts.double_to_string.Goals as goal

pub returns-in-None : goal.returns-in-None
returns-in-None c = double_number_none (λ x digits. gives_text (fixed_text (decimals_of digits) x)) (all_shown c.args.arguments.now) c.args.store.now c.in-None.ensures
