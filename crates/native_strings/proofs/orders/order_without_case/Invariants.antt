use Rattle.std.proofs.Common.{◌≡◌, length, map}
use Rattle.mql_meaning.specs.Operators.{order}
use Rattle.mql_meaning.specs.StringFunctions.{small}
use Rattle.native_strings.proofs.orders.order_without_case.Given as goal

abbrev pub invariant-loop-left : goal.invariant-loop-left
invariant-loop-left l = order (map small l.left) (map small l.right) ≡ order (map small l.first) (map small l.second)

abbrev pub decreases-loop-left : goal.decreases-loop-left
decreases-loop-left l = length l.left
