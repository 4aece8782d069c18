use Rattle.std.proofs.Common.{◌≡◌, ◌∙◌, List, Some, None, slice_get, subst, ap, rules}
use Rattle.account.specs.declared.order.Order.{Order}
use Rattle.account.specs.Keyed.{Rising}
use Rattle.account.specs.Orders.{order_ticket, orders_in_force}
use Rattle.desk.specs.Books.{Kept}
use Rattle.desk.specs.Effect.{removals}
use Rattle.desk.proofs.Ended.{first_gone, none_left, gained_like, like_gained}
use Rattle.desk.proofs.ending.remove_orders.Goals as goal

pub loop-order-preserved : goal.loop-order-preserved
loop-order-preserved g c =
    let first : slice_get c.orders.result.now 0 ≡ Some c.in-Some.order.now = search rules in
    record {
      whole = ap (λ (k : Kept). k.broken) c.in_ok-remove.ensures.ok ∙ c.loop-order.invariant.whole;
      like = gained_like c.loop-order.books c.remove.new.self c.args.books.now _ c.in_ok-remove.ensures.ok c.loop-order.invariant.like;
      events = first_gone c.loop-order.books.quoted.events c.remove.new.self.quoted.events _ c.in-Some.order.now
          (subst (λ (os : List Order). Rising order_ticket os) c.orders.ensures c.at.ensures.rising)
          (subst (λ (os : List Order). slice_get os 0 ≡ Some c.in-Some.order.now) c.orders.ensures first)
          (ap (λ (k : Kept). k.quoted.events) c.in_ok-remove.ensures.ok) c.loop-order.invariant.events;
    }

pub returns-clause-ok : goal.returns-clause-ok
returns-clause-ok g c =
    let none : slice_get c.orders.result.now 0 ≡ None = search rules in
    like_gained c.loop-order.books c.args.books.now (removals (orders_in_force c.args.books.now.quoted.events)) c.loop-order.invariant.like
    (none_left c.loop-order.books.quoted.events _ (subst (λ (os : List Order). slice_get os 0 ≡ None) c.orders.ensures none) c.loop-order.invariant.events)
