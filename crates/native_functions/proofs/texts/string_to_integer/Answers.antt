use Rattle.fx8.specs.declared.int_kind.IntKind.TheVariants as kind
use Rattle.mql_mean.specs.declared.value.Value.TheVariants as value
use Rattle.mql_meaning.specs.Texts.{integer_of}
use Rattle.mql_meaning.specs.Natives.{gives}
use Rattle.native_arguments.specs.Arguments.{all_shown}
use Rattle.native_arguments.proofs.Shapes.{one_string_none, one_string_some}
use Rattle.native_functions.proofs.texts.string_to_integer.Goals as goal

pub returns-in-Some : goal.returns-in-Some
returns-in-Some c = one_string_some (λ s. gives (value.Num kind.Long (integer_of s))) (all_shown c.args.arguments.now) _ _ c.args.store.now c.in-Some.ensures c.integer.ensures

pub returns-in-None : goal.returns-in-None
returns-in-None c = one_string_none (λ s. gives (value.Num kind.Long (integer_of s))) (all_shown c.args.arguments.now) c.args.store.now c.in-None.ensures
