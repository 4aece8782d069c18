use Rattle.std.proofs.Common.{◌≡◌, ◌++◌, length}
use Rattle.mql_macros.proofs.table.MacroTable.of_list.Given as goal

abbrev pub invariant-loop-m : goal.invariant-loop-m
invariant-loop-m l = l.table ++ l.rest ≡ l.fn.macros

abbrev pub decreases-loop-m : goal.decreases-loop-m
decreases-loop-m l = length l.rest
