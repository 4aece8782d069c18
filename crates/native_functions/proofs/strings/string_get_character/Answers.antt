use Rattle.std.proofs.Common.{pos}
use Rattle.fx8.specs.declared.int_kind.IntKind.TheVariants as kind
use Rattle.mql_mean.specs.declared.value.Value.TheVariants as value
use Rattle.mql_meaning.specs.Natives.{in_range, unit_at, gives}
use Rattle.native_arguments.specs.Arguments.{all_shown}
use Rattle.native_arguments.proofs.Shapes.{string_number_none}
use Rattle.native_functions.proofs.strings.string_get_character.Goals as goal

pub returns-in-None : goal.returns-in-None
returns-in-None c = string_number_none (λ s i. in_range (value.Num kind.Ushort (pos 0)) (unit_at s i) (λ u. gives (value.Num kind.Ushort (pos u)))) (all_shown c.args.arguments.now) c.args.store.now c.in-None.ensures
