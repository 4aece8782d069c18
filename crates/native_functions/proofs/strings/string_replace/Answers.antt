use Rattle.mql_meaning.specs.Natives.{replaces}
use Rattle.native_arguments.specs.Arguments.{all_shown}
use Rattle.native_arguments.proofs.Shapes.{lent_string_two_strings_none, lent_string_two_strings_some}
use Rattle.native_functions.proofs.strings.string_replace.Goals as goal

pub returns-in-Some : goal.returns-in-Some
returns-in-Some c = lent_string_two_strings_some replaces (all_shown c.args.arguments.now) _ _ _ _ c.args.store.now c.in-Some.ensures c.replaced.ensures

pub returns-in-None : goal.returns-in-None
returns-in-None c = lent_string_two_strings_none replaces (all_shown c.args.arguments.now) c.args.store.now c.in-None.ensures
