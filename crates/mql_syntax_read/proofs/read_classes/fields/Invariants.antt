use Rattle.std.proofs.Common.{◌≡◌, ◌++◌, map, length}
use Rattle.mql_syntax.specs.declared.declaration.Member.TheVariants as members
use Rattle.mql_syntax_read.proofs.read_classes.fields.Given as goal

abbrev pub invariant-loop-variable : goal.invariant-loop-variable
invariant-loop-variable l = map (members.Variable l.access) l.fn.found ≡ l.made ++ map (members.Variable l.access) l.left

abbrev pub decreases-loop-variable : goal.decreases-loop-variable
decreases-loop-variable l = length l.left
