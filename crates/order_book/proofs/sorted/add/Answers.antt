use Rattle.std.proofs.Common.{rules, List, sym, subst, ◌∙◌}
use Rattle.account.specs.declared.order.Order.{Order}
use Rattle.order_book.specs.Book.{IsBook}
use Rattle.order_book.proofs.Books.{book_more}
use Rattle.order_book.proofs.sorted.add.Goals as goal

pub returns-clause-items : goal.returns-clause-items
returns-clause-items c = c.insert.ensures ∙ sym (book_more c.args.orders.now.items c.args.order _ c.requires.book c.requires.fresh c.requires.few (search rules) (search rules)).0

pub returns-clause-book : goal.returns-clause-book
returns-clause-book c = subst (λ (ys : List Order). IsBook ys) (sym c.insert.ensures) (book_more c.args.orders.now.items c.args.order _ c.requires.book c.requires.fresh c.requires.few (search rules) (search rules)).1
