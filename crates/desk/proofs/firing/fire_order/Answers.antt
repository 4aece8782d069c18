use Rattle.std.proofs.Common.{◌≡◌, Some, None, refl, rules, to_z, of_z, w64}
use Rattle.account.specs.Keyed.{item}
use Rattle.account.specs.Orders.{order_ticket, orders_in_force}
use Rattle.desk.proofs.FiringOrders.{gone_runs, is_order_fill}
use Rattle.desk.proofs.firing.fire_order.Goals as goal

pub returns-in_default : goal.returns-in_default
returns-in_default g c =
    let n : item order_ticket c.args.ticket (orders_in_force c.args.books.now.quoted.events) ≡ None = search rules in
    gone_runs c.args.books.now c.args.books.now c.args.time_ms c.args.ticket tt c.is_sound.ensures.sound n refl

pub fill_order-requires-clause-fill : goal.fill_order-requires-clause-fill
fill_order-requires-clause-fill g c =
    let e : item order_ticket c.args.ticket (orders_in_force c.args.books.now.quoted.events) ≡ Some c.in-Some.order.now = search rules in
    is_order_fill c.args.books.now.quoted (to_z w64 (of_z w64 c.args.time_ms)) c.args.ticket c.in-Some.order.now c.in-Ok.fill c.is_sound.ensures.quoted c.is_sound.ensures.sound e c.in-Ok.ensures
