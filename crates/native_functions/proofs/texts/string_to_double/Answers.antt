use Rattle.mql_meaning.specs.Texts.{double_of}
use Rattle.mql_meaning.specs.Natives.{gives_double}
use Rattle.native_arguments.specs.Arguments.{all_shown}
use Rattle.native_arguments.proofs.Shapes.{one_string_none, one_string_some}
use Rattle.native_functions.proofs.texts.string_to_double.Goals as goal

pub returns-in-Some : goal.returns-in-Some
returns-in-Some c = one_string_some (λ s. gives_double (double_of s)) (all_shown c.args.arguments.now) _ _ c.args.store.now c.in-Some.ensures c.double.ensures

pub returns-in-None : goal.returns-in-None
returns-in-None c = one_string_none (λ s. gives_double (double_of s)) (all_shown c.args.arguments.now) c.args.store.now c.in-None.ensures
