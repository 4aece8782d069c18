use Rattle.mql_meaning.specs.Natives.{cuts}
use Rattle.native_arguments.specs.Arguments.{all_shown}
use Rattle.native_arguments.proofs.Shapes.{string_two_numbers_none}
use Rattle.native_functions.proofs.strings.string_substr.Goals as goal

pub returns-in-None : goal.returns-in-None
returns-in-None c = string_two_numbers_none cuts (all_shown c.args.arguments.now) c.args.store.now c.in-None.ensures
