use Rattle.mql_meaning.specs.Natives.{compares_strings}
use Rattle.native_arguments.specs.Arguments.{all_shown}
use Rattle.native_arguments.proofs.Shapes.{two_strings_number_none}
use Rattle.native_functions.proofs.strings.string_compare.Goals as goal

pub returns-in-None : goal.returns-in-None
returns-in-None c = two_strings_number_none compares_strings (all_shown c.args.arguments.now) c.args.store.now c.in-None.ensures
