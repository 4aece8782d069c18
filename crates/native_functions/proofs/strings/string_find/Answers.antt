use Rattle.std.proofs.Common.{length}
use Rattle.mql_meaning.specs.StringFunctions.{place_in}
use Rattle.mql_meaning.specs.Natives.{in_range, minus_one, finds}
use Rattle.native_arguments.specs.Arguments.{all_shown}
use Rattle.native_arguments.proofs.Shapes.{two_strings_number_none}
use Rattle.native_functions.proofs.strings.string_find.Goals as goal

pub returns-in-None : goal.returns-in-None
returns-in-None c = two_strings_number_none (λ s part start. in_range minus_one (place_in start (length s)) (finds s part)) (all_shown c.args.arguments.now) c.args.store.now c.in-None.ensures
