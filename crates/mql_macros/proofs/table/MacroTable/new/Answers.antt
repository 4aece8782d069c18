use Rattle.mql_macros.proofs.Placing.{none_placed}
use Rattle.mql_macros.proofs.table.MacroTable.new.Goals as goal

pub invariant_of-result : goal.invariant_of-result
invariant_of-result c = none_placed _ _ c.new-2.ensures.empty c.new.ensures
