use Rattle.mql_meaning.specs.Natives.{from_structure}
use Rattle.native_arguments.specs.Arguments.{all_shown}
use Rattle.native_arguments.proofs.Shapes.{one_value_none, one_value_some}
use Rattle.native_times.proofs.times.struct_to_time.Goals as goal

pub returns-in-Some : goal.returns-in-Some
returns-in-Some c = one_value_some from_structure (all_shown c.args.arguments.now) _ _ c.args.store.now c.in-Some.ensures c.from_structure.ensures

pub returns-in-None : goal.returns-in-None
returns-in-None c = one_value_none from_structure (all_shown c.args.arguments.now) c.args.store.now c.in-None.ensures
