-- The orders in force, read off the events (MetaTrader 5 Help, Types of Orders).
use Rattle.std.specs.Prelude.{ℕ, Bool, true, false, if◌then◌else◌, List, [], Some, None, pos}
use Rattle.std.specs.List.{fold}
use Rattle.std.specs.Option.{option_map}
use Rattle.account.specs.declared.order.Order.{Order}
use Rattle.account.specs.declared.order.OrderKind.{OrderKind}
use Rattle.account.specs.declared.order.OrderKind.TheVariants as kind
use Rattle.account.specs.declared.event.Event.{Event}
use Rattle.account.specs.declared.event.Event.TheVariants as event
use Rattle.account.specs.Keyed.{item, put}

abbrev pub order_ticket : Order → ℕ
order_ticket o = o.ticket

-- an order with the price, stop-limit price, stops and time of another
abbrev pub changed : Order → Order → Order
changed new o = record o {
  price = new.price;
  stoplimit = new.stoplimit;
  sl = new.sl;
  tp = new.tp;
  type_time = new.type_time;
  expires = new.expires;
}

-- the order is a stop-limit order
abbrev pub is_stop_limit : OrderKind → Bool
is_stop_limit kind.BuyLimit = false
is_stop_limit kind.SellLimit = false
is_stop_limit kind.BuyStop = false
is_stop_limit kind.SellStop = false
is_stop_limit kind.BuyStopLimit = true
is_stop_limit kind.SellStopLimit = true

-- the kind that a triggered order has from then on
abbrev pub triggered_kind : OrderKind → OrderKind
triggered_kind kind.BuyLimit = kind.BuyLimit
triggered_kind kind.SellLimit = kind.SellLimit
triggered_kind kind.BuyStop = kind.BuyStop
triggered_kind kind.SellStop = kind.SellStop
triggered_kind kind.BuyStopLimit = kind.BuyLimit
triggered_kind kind.SellStopLimit = kind.SellLimit

-- a triggered stop-limit order is a limit order at its stop-limit price
abbrev pub triggered : Order → Order
triggered o =
    if is_stop_limit o.kind
    then record o { kind = triggered_kind o.kind; price = o.stoplimit; stoplimit = pos 0 }
    else o

-- the orders in force after an event: placed, with their last change, and not removed
abbrev pub orders_after : List Order → Event → List Order
orders_after os (event.Placed o) = put order_ticket o.ticket (Some o) os
orders_after os (event.Modified o) =
    put order_ticket o.ticket (option_map (changed o) (item order_ticket o.ticket os)) os
orders_after os (event.Removed t cause) = put order_ticket t None os
orders_after os (event.Triggered t) =
    put order_ticket t (option_map triggered (item order_ticket t os)) os
orders_after os (event.Added d) = os
orders_after os (event.Stops t sl tp) = os
orders_after os (event.Swap t amount) = os

-- the orders in force, by rising ticket
abbrev pub orders_in_force : List Event → List Order
orders_in_force events = fold orders_after [] events
