use Rattle.std.proofs.Common.{◌≡◌, length}
use Rattle.mql_meaning.specs.Operators as operators
use Rattle.mql_values.proofs.texts.order.Given as goal

abbrev pub invariant-loop-left : goal.invariant-loop-left
invariant-loop-left l = operators.order l.left l.right ≡ operators.order l.fn.s l.fn.t

abbrev pub decreases-loop-left : goal.decreases-loop-left
decreases-loop-left l = length l.left
