use Rattle.std.proofs.Common.{rules}
use Rattle.account.specs.Orders.{order_ticket}
use Rattle.account.proofs.Found.{found_hit, found_miss, found_end}
use Rattle.order_book.proofs.sorted.found.Goals as goal

pub returns-then-i-orders-clause-value : goal.returns-then-i-orders-clause-value
returns-then-i-orders-clause-value c = found_end order_ticket c.args.ticket c.args.orders.now c.lower-i.result c.lower-i.ensures.value (search rules)

pub returns-then-nth-ticket-clause-value : goal.returns-then-nth-ticket-clause-value
returns-then-nth-ticket-clause-value c = found_hit order_ticket c.args.ticket c.args.orders.now c.lower-i.result c.nth.result.now c.lower-i.ensures.value c.nth.ensures (search rules)

pub returns-else-nth-ticket-clause-value : goal.returns-else-nth-ticket-clause-value
returns-else-nth-ticket-clause-value c = found_miss order_ticket c.args.ticket c.args.orders.now c.lower-i.result c.nth.result.now c.lower-i.ensures.value c.requires c.nth.ensures (search rules)
