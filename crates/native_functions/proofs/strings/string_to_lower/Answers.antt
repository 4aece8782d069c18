use Rattle.std.proofs.Common.{map, true}
use Rattle.mql_meaning.specs.StringFunctions.{small}
use Rattle.mql_meaning.specs.Natives.{becomes_text, truth_value}
use Rattle.native_arguments.specs.Arguments.{all_shown}
use Rattle.native_arguments.proofs.Shapes.{one_lent_string_none, one_lent_string_some}
use Rattle.native_functions.proofs.strings.string_to_lower.Goals as goal

pub returns-in-Some : goal.returns-in-Some
returns-in-Some c = one_lent_string_some (λ s. becomes_text (map small s) (truth_value true)) (all_shown c.args.arguments.now) _ _ c.args.store.now c.in-Some.ensures c.to_lower.ensures

pub returns-in-None : goal.returns-in-None
returns-in-None c = one_lent_string_none (λ s. becomes_text (map small s) (truth_value true)) (all_shown c.args.arguments.now) c.args.store.now c.in-None.ensures
