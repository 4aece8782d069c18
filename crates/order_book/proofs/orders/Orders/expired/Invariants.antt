use Rattle.std.proofs.Common.{◌≡◌, ◌+◌, ◌++◌, ◌≤◌, length}
use Rattle.account.specs.Firing.{expired_orders}
use Rattle.order_book.proofs.orders.Orders.expired.Given as goal

abbrev pub invariant-loop-order : goal.invariant-loop-order
invariant-loop-order l =
    (l.out.items ++ expired_orders l.time l.rest ≡ l.fn.out.items ++ expired_orders l.time l.fn.self)
    × (length l.rest ≤ l.out.spare)
    × (l.out.spare + length l.out.items ≡ l.fn.out.spare + length l.fn.out.items)

abbrev pub decreases-loop-order : goal.decreases-loop-order
decreases-loop-order l = length l.rest
