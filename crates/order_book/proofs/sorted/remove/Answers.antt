use Rattle.std.proofs.Common.{rules, List, sym, subst, ◌∙◌}
use Rattle.account.specs.declared.order.Order.{Order}
use Rattle.account.specs.Orders.{order_ticket}
use Rattle.order_book.specs.Book.{IsBook}
use Rattle.order_book.proofs.Books.{book_less}
use Rattle.account.proofs.Found.{taken, gone, none_gone}
use Rattle.order_book.proofs.sorted.remove.Goals as goal

pub returns-in-Some-clause-value : goal.returns-in-Some-clause-value
returns-in-Some-clause-value c = taken order_ticket c.args.ticket c.args.orders.now.items c.in-Some.i c.remove.result c.requires.rising (search rules) c.remove.ensures.value

pub returns-in-Some-clause-items : goal.returns-in-Some-clause-items
returns-in-Some-clause-items c = c.remove.ensures.items ∙ sym (gone order_ticket c.args.ticket c.args.orders.now.items c.in-Some.i c.requires.rising (search rules))

pub returns-in-Some-clause-book : goal.returns-in-Some-clause-book
returns-in-Some-clause-book c = subst (λ (ys : List Order). IsBook ys) (sym c.remove.ensures.items) (book_less c.args.orders.now.items c.args.ticket c.in-Some.i c.requires (search rules))

pub returns-in-None-clause-items : goal.returns-in-None-clause-items
returns-in-None-clause-items c = none_gone order_ticket c.args.ticket c.args.orders.now.items c.requires.rising (search rules)
