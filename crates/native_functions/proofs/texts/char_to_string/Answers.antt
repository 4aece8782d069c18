use Rattle.std.proofs.Common.{unsigned_abs, ◌∷◌, []}
use Rattle.mql_meaning.specs.Natives.{gives_text}
use Rattle.native_arguments.specs.Arguments.{all_shown}
use Rattle.native_arguments.proofs.Shapes.{one_number_none}
use Rattle.native_functions.proofs.texts.char_to_string.Goals as goal

pub returns-in-None : goal.returns-in-None
returns-in-None c = one_number_none (λ c. gives_text (unsigned_abs c ∷ [])) (all_shown c.args.arguments.now) c.args.store.now c.in-None.ensures
