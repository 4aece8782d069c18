use Rattle.std.proofs.Common.{◌≡◌, ◌++◌, map, length}
use Rattle.mql_syntax.specs.declared.declaration.Item.TheVariants as made
use Rattle.mql_syntax_read.proofs.read_items.variable_items.Given as goal

abbrev pub invariant-loop-variable : goal.invariant-loop-variable
invariant-loop-variable l = map made.Variable l.fn.found ≡ l.made ++ map made.Variable l.left

abbrev pub decreases-loop-variable : goal.decreases-loop-variable
decreases-loop-variable l = length l.left
