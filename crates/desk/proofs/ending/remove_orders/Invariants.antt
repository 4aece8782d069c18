use Rattle.std.proofs.Common.{◌≡◌, ◌++◌, false, length}
use Rattle.account.specs.Orders.{orders_in_force}
use Rattle.desk.specs.Effect.{removals}
use Rattle.desk.proofs.Ended.{IsLike}
use Rattle.desk.proofs.ending.remove_orders.Given as goal

abbrev pub invariant-loop-order : goal.invariant-loop-order
invariant-loop-order g l = record {
  whole : l.books.broken ≡ false;
  like : IsLike l.books l.fn.books;
  events : l.books.quoted.events ++ removals (orders_in_force l.books.quoted.events) ≡ l.fn.books.quoted.events ++ removals (orders_in_force l.fn.books.quoted.events);
}

abbrev pub decreases-loop-order : goal.decreases-loop-order
decreases-loop-order g l = length (orders_in_force l.books.quoted.events)
