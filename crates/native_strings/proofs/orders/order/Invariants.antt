use Rattle.std.proofs.Common.{◌≡◌, length}
use Rattle.mql_meaning.specs.Operators.{order}
use Rattle.native_strings.proofs.orders.order.Given as goal

abbrev pub invariant-loop-left : goal.invariant-loop-left
invariant-loop-left l = order l.left l.right ≡ order l.first l.second

abbrev pub decreases-loop-left : goal.decreases-loop-left
decreases-loop-left l = length l.left
