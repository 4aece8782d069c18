use Rattle.std.proofs.Common.{false, unsigned_abs}
use Rattle.mql_meaning.specs.StringFunctions.{padded, width_of}
use Rattle.mql_meaning.specs.Texts.{whole_text}
use Rattle.mql_meaning.specs.Natives.{gives_text}
use Rattle.native_arguments.specs.Arguments.{all_shown}
use Rattle.native_arguments.proofs.Shapes.{three_numbers_none}
use Rattle.native_functions.proofs.texts.integer_to_string.Goals as goal

pub returns-in-None : goal.returns-in-None
returns-in-None c = three_numbers_none (λ n width fill. gives_text (padded false (width_of width) (unsigned_abs fill) (whole_text n))) (all_shown c.args.arguments.now) c.args.store.now c.in-None.ensures
