use Rattle.std.proofs.Common.{rules, ◌≡◌, Some, List, slice_get, refl, sym, subst, ◌∙◌}
use Rattle.account.specs.declared.order.Order.{Order}
use Rattle.account.specs.Keyed.{found}
use Rattle.account.specs.Orders.{order_ticket, changed}
use Rattle.order_book.specs.Book.{IsBook}
use Rattle.order_book.proofs.Books.{change_refused, change_taken, book_set, stands_one}
use Rattle.account.proofs.Found.{changed_at}
use Rattle.order_book.proofs.sorted.modify.Goals as goal

pub returns-then-same_terms-clause-answer : goal.returns-then-same_terms-clause-answer
returns-then-same_terms-clause-answer c = (change_refused c.args.orders.now.items c.args.order.now c.nth.result.now c.in-Some.i c.requires.rising (search rules) (search rules) (search rules), refl)

pub returns-else-same_terms-clause-answer : goal.returns-else-same_terms-clause-answer
returns-else-same_terms-clause-answer c =
    let g : slice_get c.args.orders.now.items c.in-Some.i ≡ Some c.nth.result.now = search rules in
    let f : Some c.in-Some.i ≡ found order_ticket c.args.order.now.ticket c.args.orders.now.items = search rules in (
      change_taken c.args.orders.now.items c.args.order.now c.nth.result.now c.in-Some.i c.requires.rising f g (search rules),
      c.change_at.ensures c.nth.result.now g ∙ sym (changed_at order_ticket c.args.order.now.ticket (changed c.args.order.now) c.args.orders.now.items c.in-Some.i c.nth.result.now c.requires.rising f g),
    )

pub returns-else-same_terms-clause-book : goal.returns-else-same_terms-clause-book
returns-else-same_terms-clause-book c =
    let g : slice_get c.args.orders.now.items c.in-Some.i ≡ Some c.nth.result.now = search rules in
    let f : Some c.in-Some.i ≡ found order_ticket c.args.order.now.ticket c.args.orders.now.items = search rules in
    subst (λ (ys : List Order). IsBook ys) (sym (c.change_at.ensures c.nth.result.now g)) (book_set c.args.orders.now.items c.args.order.now.ticket c.in-Some.i (changed c.args.order.now c.nth.result.now) c.requires f (stands_one order_ticket c.args.order.now.ticket c.args.orders.now.items c.in-Some.i c.nth.result.now c.requires.rising f g).1)
