use Rattle.std.proofs.Common.{rules, sym}
use Rattle.account.specs.Orders.{order_ticket}
use Rattle.order_book.proofs.Books.{stands_one}
use Rattle.order_book.proofs.sorted.get.Goals as goal

pub returns-in-Some : goal.returns-in-Some
returns-in-Some c = sym (stands_one order_ticket c.args.ticket c.args.orders.now c.in-Some.i c.nth.result.now c.requires (search rules) c.nth.ensures).0
