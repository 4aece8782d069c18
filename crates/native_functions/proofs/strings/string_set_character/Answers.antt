use Rattle.mql_meaning.specs.Natives.{sets_unit}
use Rattle.native_arguments.specs.Arguments.{all_shown}
use Rattle.native_arguments.proofs.Shapes.{lent_string_two_numbers_none}
use Rattle.native_functions.proofs.strings.string_set_character.Goals as goal

pub returns-in-None : goal.returns-in-None
returns-in-None c = lent_string_two_numbers_none sets_unit (all_shown c.args.arguments.now) c.args.store.now c.in-None.ensures
