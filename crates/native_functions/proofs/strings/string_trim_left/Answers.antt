use Rattle.mql_meaning.specs.StringFunctions.{trimmed_left}
use Rattle.mql_meaning.specs.Natives.{trims}
use Rattle.native_arguments.specs.Arguments.{all_shown}
use Rattle.native_arguments.proofs.Shapes.{one_lent_string_none, one_lent_string_some}
use Rattle.native_functions.proofs.strings.string_trim_left.Goals as goal

pub returns-in-Some : goal.returns-in-Some
returns-in-Some c = one_lent_string_some (trims trimmed_left) (all_shown c.args.arguments.now) _ _ c.args.store.now c.in-Some.ensures c.left_trimmed.ensures

pub returns-in-None : goal.returns-in-None
returns-in-None c = one_lent_string_none (trims trimmed_left) (all_shown c.args.arguments.now) c.args.store.now c.in-None.ensures
