-- The book of pending orders: what it holds at most, and when a call is refused (limits own; MQL5
-- Reference, Trade Server Return Codes, TRADE_RETCODE_NO_CHANGES).
use Rattle.std.specs.Prelude.{ℕ, ◌≡◌, ◌<◌, ◌≤◌, ◌&&◌, ◌==◌, if◌then◌else◌, Bool, length, slice_get, slice_set, List, [], ◌∷◌, ◌++◌, Option, Some, None, Result, Ok, Err}
use Rattle.std.specs.Ordering.{int_eq}
use Rattle.account.specs.declared.order.Order.{Order}
use Rattle.account.specs.declared.order.OrderTime.{OrderTime}
use Rattle.account.specs.declared.order.OrderTime.TheVariants as time
use Rattle.account.specs.declared.event.Event.{Event}
use Rattle.account.specs.declared.event.Event.TheVariants as event
use Rattle.account.specs.Keyed.{item, Rising}
use Rattle.account.specs.Orders.{order_ticket, orders_after, orders_in_force}
use Rattle.order_book.specs.declared.book_fault.BookFault.{BookFault}
use Rattle.order_book.specs.declared.book_fault.BookFault.TheVariants as fault

-- so many orders stand at most
abbrev pub most_orders : ℕ
most_orders = 1000

-- tickets rise, and no more orders stand than may
pub record IsBook (os : List Order) : Type 0 where
  pub rising : Rising order_ticket os
  pub few : length os ≤ most_orders

-- the number of a kind of time (MQL5 Reference, ENUM_ORDER_TYPE_TIME)
abbrev pub time_number : OrderTime → ℕ
time_number time.Gtc = 0
time_number time.Day = 1
time_number time.Specified = 2
time_number time.SpecifiedDay = 3

-- price, stop-limit price, stops and time of two orders are the same
unfoldable pub same_terms : Order → Order → Bool
same_terms a b =
    int_eq a.price b.price
    && int_eq a.stoplimit b.stoplimit
    && int_eq a.sl b.sl
    && int_eq a.tp b.tp
    && time_number a.type_time == time_number b.type_time
    && int_eq a.expires b.expires

-- why an order cannot be modified: it does not stand, or it would be as it was
abbrev pub change_fault : Order → Option Order → Option BookFault
change_fault new None = Some fault.NoOrder
change_fault new (Some o) = if same_terms o new then Some fault.NoChanges else None

abbrev pub modify_fault : List Order → Order → Option BookFault
modify_fault os new = change_fault new (item order_ticket new.ticket os)

-- what placing an order answers and leaves: the journal's step; `Full` exactly where as many stand as may, and
-- then no change; nor at want of memory
abbrev pub IsPlaced : List Order → Order → Result (Unit {0}) BookFault → List Order → Type 0
IsPlaced os o (Ok _) after = (length os < most_orders) × (after ≡ orders_after os (event.Placed o))
IsPlaced os o (Err fault.Full) after = (length os ≡ most_orders) × (after ≡ os)
IsPlaced os o (Err fault.OutOfMemory) after = (length os < most_orders) × (after ≡ os)
IsPlaced os o (Err fault.NoOrder) after = ⊥
IsPlaced os o (Err fault.NoChanges) after = ⊥

-- what modifying an order answers and leaves: the journal's step; its fault exactly where there is one, and
-- then no change
abbrev pub IsModified : List Order → Order → Result (Unit {0}) BookFault → List Order → Type 0
IsModified os new (Ok _) after = (modify_fault os new ≡ None) × (after ≡ orders_after os (event.Modified new))
IsModified os new (Err e) after = (modify_fault os new ≡ Some e) × (after ≡ os)

-- the order at a place is changed, and no other
abbrev pub ChangesAt : (Order → Order) → ℕ → List Order → List Order → Type 0
ChangesAt change i os after = (o : Order) → slice_get os i ≡ Some o → after ≡ slice_set os i (change o)

-- the orders in force go on event by event, by the journal's step
abbrev pub GoesOn : Type 0
GoesOn =
    (events : List Event) (e : Event) →
    orders_in_force (events ++ e ∷ []) ≡ orders_after (orders_in_force events) e
