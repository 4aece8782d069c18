use Rattle.native_array_functions.specs.Parts.{fills}
use Rattle.native_arguments.specs.Arguments.{all_shown}
use Rattle.native_arguments.proofs.Shapes.{cell_value_none, cell_value_some}
use Rattle.native_array_functions.proofs.arrays.array_initialize.Goals as goal

pub returns-in-Some : goal.returns-in-Some
returns-in-Some c =
    cell_value_some fills
    (all_shown c.args.arguments.now) _ _ _ c.args.store.now c.in-Some.ensures c.initialized.ensures

pub returns-in-None : goal.returns-in-None
returns-in-None c = cell_value_none fills (all_shown c.args.arguments.now) c.args.store.now c.in-None.ensures
