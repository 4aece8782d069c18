-- The tickets of orders and the numbers of deals (own; MQL5 Reference, Order Properties, Deal Properties).
use Rattle.std.specs.Prelude.{ℕ, ◌+◌, nat_lt, if◌then◌else◌, List, length}
use Rattle.std.specs.List.{fold}
use Rattle.account.specs.declared.event.Event.{Event}
use Rattle.account.specs.declared.event.Event.TheVariants as event
use Rattle.account.specs.Deals.{deals}
use Rattle.judgement.specs.declared.act.Next.{Next}

-- the ticket of the order that an event is of: one that is placed, or one that a deal fills; 0 where there is
-- none
abbrev pub order_of_event : Event → ℕ
order_of_event (event.Placed o) = o.ticket
order_of_event (event.Added d) = d.order
order_of_event (event.Modified o) = 0
order_of_event (event.Removed t cause) = 0
order_of_event (event.Triggered t) = 0
order_of_event (event.Stops t sl tp) = 0
order_of_event (event.Swap t amount) = 0

unfoldable pub greater_number : ℕ → ℕ → ℕ
greater_number a b = if nat_lt a b then b else a

abbrev pub last_after : ℕ → Event → ℕ
last_after last e = greater_number last (order_of_event e)

-- the last ticket that an order took, 0 before the first
abbrev pub last_order : List Event → ℕ
last_order events = fold last_after 0 events

-- the tickets that come next: orders and deals count from 1, each by themselves
abbrev pub next_of : List Event → Next
next_of events = record { order = last_order events + 1; deal = length (deals events) + 1 }
