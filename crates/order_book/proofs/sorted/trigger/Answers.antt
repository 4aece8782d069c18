use Rattle.std.proofs.Common.{rules, ◌≡◌, Some, List, sym, subst, ◌∙◌}
use Rattle.account.specs.declared.order.Order.{Order}
use Rattle.account.specs.Keyed.{found}
use Rattle.account.specs.Orders.{order_ticket, triggered}
use Rattle.order_book.specs.Book.{IsBook}
use Rattle.order_book.proofs.Books.{triggered_ticket, book_set}
use Rattle.account.proofs.Found.{Stands, stands, changed_at, changed_none}
use Rattle.order_book.proofs.sorted.trigger.Goals as goal

pub returns-in-Some-clause-items : goal.returns-in-Some-clause-items
returns-in-Some-clause-items c =
    let f : Some c.in-Some.i ≡ found order_ticket c.args.ticket c.args.orders.now.items = search rules in
    let s : Stands order_ticket c.args.ticket c.args.orders.now.items c.in-Some.i = stands order_ticket c.args.ticket c.args.orders.now.items c.in-Some.i c.requires.rising f in
    c.trigger_at.ensures s.one s.there ∙ sym (changed_at order_ticket c.args.ticket triggered c.args.orders.now.items c.in-Some.i s.one c.requires.rising f s.there)

pub returns-in-Some-clause-book : goal.returns-in-Some-clause-book
returns-in-Some-clause-book c =
    let f : Some c.in-Some.i ≡ found order_ticket c.args.ticket c.args.orders.now.items = search rules in
    let s : Stands order_ticket c.args.ticket c.args.orders.now.items c.in-Some.i = stands order_ticket c.args.ticket c.args.orders.now.items c.in-Some.i c.requires.rising f in
    subst (λ (ys : List Order). IsBook ys) (sym (c.trigger_at.ensures s.one s.there)) (book_set c.args.orders.now.items c.args.ticket c.in-Some.i (triggered s.one) c.requires f (triggered_ticket s.one ∙ s.key_is))

pub returns-in-None-clause-items : goal.returns-in-None-clause-items
returns-in-None-clause-items c = changed_none order_ticket c.args.ticket triggered c.args.orders.now.items c.requires.rising (search rules)
