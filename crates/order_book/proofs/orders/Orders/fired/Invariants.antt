use Rattle.std.proofs.Common.{◌≡◌, ◌+◌, ◌++◌, ◌≤◌, length}
use Rattle.account.specs.Firing.{fired_orders}
use Rattle.order_book.proofs.orders.Orders.fired.Given as goal

abbrev pub invariant-loop-order : goal.invariant-loop-order
invariant-loop-order g l =
    (l.out.items ++ fired_orders l.quote l.rest ≡ l.fn.out.items ++ fired_orders l.quote l.fn.self)
    × (length l.rest ≤ l.out.spare)
    × (l.out.spare + length l.out.items ≡ l.fn.out.spare + length l.fn.out.items)
    × (l.fn.steps ≤ l.steps)

abbrev pub decreases-loop-order : goal.decreases-loop-order
decreases-loop-order g l = length l.rest
