-- What one loud quote does to an account before the expert sees it, and what closing does at the end
-- (MetaTrader 5 Help, Types of Orders, Stop Loss and Take Profit, Stop Out; the order of work is our own).
use Rattle.std.specs.Prelude.{ℕ, zero, suc, ◌++◌, Bool, true, false, not, ◌==◌, nat_lt, if◌then◌else◌, List, [], ◌∷◌, length, map, take_while, drop, slice_get, slice_set, Option, Some, None, unwrap_or, ℤ, pos}
use Rattle.std.specs.List.{fold, filter_map}
use Rattle.std.specs.Option.{option_map, option_map_or}
use Rattle.market_types.specs.declared.quote.Quote.{Quote}
use Rattle.market_types.specs.declared.symbol_spec.SymbolSpec.{SymbolSpec}
use Rattle.account.specs.declared.account_spec.AccountSpec.{AccountSpec}
use Rattle.account.specs.declared.deal.DealReason.{DealReason}
use Rattle.account.specs.declared.deal.DealReason.TheVariants as reason
use Rattle.account.specs.declared.order.Order.{Order}
use Rattle.account.specs.declared.position.Position.{Position}
use Rattle.account.specs.declared.event.Event.{Event}
use Rattle.account.specs.declared.event.Event.TheVariants as event
use Rattle.account.specs.declared.event.RemovalCause.TheVariants as cause
use Rattle.account.specs.Firing.{fired_orders, expired_orders, stop_reason}
use Rattle.account.specs.Keyed.{item}
use Rattle.account.specs.Orders.{order_ticket, is_stop_limit, orders_in_force}
use Rattle.account.specs.Positions.{position_ticket, same_side, open_positions}
use Rattle.account.specs.Statistics.{greater}
use Rattle.account.specs.StopOut.{PriceList, prices_at, closing_price, worst}
use Rattle.positions.specs.declared.fill.Fill.{Fill}
use Rattle.positions.specs.Fills.{filled}
use Rattle.judgement.specs.Rules.{kind_buys, second_of}
use Rattle.desk.specs.declared.trigger.Trigger.{Trigger}
use Rattle.desk.specs.declared.trigger.Trigger.TheVariants as trigger
use Rattle.positions.specs.Money.{added_by, has_money_for}
use Rattle.desk.specs.Nights.{nights_between, swap_events}
use Rattle.desk.specs.State.{Quoted, have_room}
use Rattle.desk.specs.Tickets.{next_of}

-- a journal that acts add to one after another, until one would add a deal past the last that may be
pub record Run : Type 0 where
  pub events : List Event
  pub full : Bool

-- an act adds all its events, or none where its deals find no room; no further act is done then
abbrev pub act : (List Event → List Event) → Run → Run
act adds run =
    if run.full then run
    else if have_room run.events (adds run.events)
    then record { events = run.events ++ adds run.events; full = false }
    else record { events = run.events; full = true }

-- the acts of several things, in their order
abbrev pub acts : {X : Type 0} → (X → List Event → List Event) → Run → List X → Run
acts adds run xs = fold (λ run x. act (adds x) run) run xs

-- the prices and the time of a loud quote stand from then on
abbrev pub with_quote : Quote → Quoted → Quoted
with_quote quote q = record q {
  prices = slice_set q.prices quote.symbol (Some (quote.bid, quote.ask));
  times = slice_set q.times quote.symbol (Some quote.time_ms);
}

-- first swap: the positions of the quote's symbol, for the nights since its loud quote before
abbrev pub swaps_of : Option SymbolSpec → Option (Option ℤ) → Quote → List Position → List Event
swaps_of (Some s) (Some before) quote ps =
    swap_events s quote.symbol (nights_between s.swap_day before quote.time_ms) ps
swaps_of (Some s) None quote ps = []
swaps_of None before quote ps = []

abbrev pub swaps : Quoted → Quote → List Event
swaps q quote =
    swaps_of (slice_get q.spec.specs quote.symbol) (slice_get q.times quote.symbol) quote
    (open_positions q.events)

-- then expiry: the orders of all symbols whose time is over are removed
abbrev pub expiries : Quote → List Order → List Event
expiries quote os =
    map (λ t. event.Removed t cause.Expired) (expired_orders (second_of quote.time_ms) os)

-- the stop of a position of the quote's symbol that the quote reaches
abbrev pub stop_of : Quote → Position → Option Trigger
stop_of quote p =
    if p.symbol == quote.symbol
    then option_map (trigger.Stop p.ticket p.buy) (stop_reason quote p)
    else None

abbrev pub ticket_of : Trigger → ℕ
ticket_of (trigger.Order t) = t
ticket_of (trigger.Stop t buy reason) = t

-- those of lower tickets
abbrev pub earlier : ℕ → List Trigger → List Trigger
earlier t stops = take_while (λ x. nat_lt (ticket_of x) t) stops

-- orders and stops together, in the order of their tickets
abbrev pub merged : List ℕ → List Trigger → List Trigger
merged [] stops = stops
merged (t ∷ orders) stops =
    earlier t stops ++ trigger.Order t ∷ merged orders (drop (length (earlier t stops)) stops)

-- what fires, by the state before triggers: orders in force and stops of open positions, by rising ticket
abbrev pub triggers : Quote → List Event → List Trigger
triggers quote events =
    merged (fired_orders quote (orders_in_force events)) (filter_map (stop_of quote) (open_positions events))

-- a fired order as a fill: at Ask for a buy, at Bid for a sell
abbrev pub fill_of_order : ℕ → ℤ → ℤ × ℤ → Order → Fill
fill_of_order deal time_ms prices o = record {
  order = o.ticket;
  position = 0;
  deal = deal;
  time_ms = time_ms;
  symbol = o.symbol;
  buy = kind_buys o.kind;
  volume = o.volume;
  price = closing_price (not (kind_buys o.kind)) prices;
  sl = o.sl;
  tp = o.tp;
  magic = o.magic;
  reason = reason.Expert;
  comment = o.comment;
}

-- all of a position is closed: at Bid for a buy, at Ask for a sell. The deal has no order, and magic and
-- comment of the position
abbrev pub fill_of_closing : ℕ → ℤ → ℤ × ℤ → DealReason → Position → Fill
fill_of_closing deal time_ms prices why p = record {
  order = 0;
  position = p.ticket;
  deal = deal;
  time_ms = time_ms;
  symbol = p.symbol;
  buy = not p.buy;
  volume = p.volume;
  price = closing_price p.buy prices;
  sl = pos 0;
  tp = pos 0;
  magic = p.magic;
  reason = why;
  comment = p.comment;
}

-- the last loud Bid and Ask of a symbol; it has them where something of it stands
abbrev pub last_prices : PriceList → ℕ → ℤ × ℤ
last_prices prices symbol = unwrap_or (prices_at prices symbol) (pos 0, pos 0)

abbrev pub events_of_fill : AccountSpec → List Event → Fill → List Event
events_of_fill spec events f = added_by (filled spec.hedging spec.specs (open_positions events) f)

-- a fired order is filled where there is money for its deal, else removed
abbrev pub order_filled : AccountSpec → PriceList → Fill → List Event → List Event
order_filled spec prices f events =
    if has_money_for spec prices events f
    then event.Removed f.order cause.Filled ∷ events_of_fill spec events f
    else event.Removed f.order cause.NoMoney ∷ []

-- a fired stop-limit order becomes a limit order, any other is filled
abbrev pub order_fired : AccountSpec → PriceList → ℤ → List Event → Option Order → List Event
order_fired spec prices time_ms events None = []
order_fired spec prices time_ms events (Some o) =
    if is_stop_limit o.kind then event.Triggered o.ticket ∷ []
    else order_filled spec prices
    (fill_of_order (next_of events).deal time_ms (last_prices prices o.symbol) o) events

-- a position that is open is closed
abbrev pub position_closed : AccountSpec → PriceList → ℤ → DealReason → List Event → Option Position →
    List Event
position_closed spec prices time_ms why events None = []
position_closed spec prices time_ms why events (Some p) =
    events_of_fill spec events
    (fill_of_closing (next_of events).deal time_ms (last_prices prices p.symbol) why p)

-- the fill that closes a position that is open
abbrev pub closing_fill : Quoted → ℤ → DealReason → Option Position → Option Fill
closing_fill q time_ms why None = None
closing_fill q time_ms why (Some p) =
    Some (fill_of_closing (next_of q.events).deal time_ms (last_prices q.prices p.symbol) why p)

-- the position, where it is on a side
abbrev pub on_side : Bool → Option Position → Option Position
on_side buy None = None
on_side buy (Some p) = if same_side p.buy buy then Some p else None

-- what a trigger adds, where the order still stands or the position is still open on its side
abbrev pub triggered_by : AccountSpec → PriceList → ℤ → Trigger → List Event → List Event
triggered_by spec prices time_ms (trigger.Order t) events =
    order_fired spec prices time_ms events (item order_ticket t (orders_in_force events))
triggered_by spec prices time_ms (trigger.Stop t buy why) events =
    position_closed spec prices time_ms why events
    (on_side buy (item position_ticket t (open_positions events)))

-- closing the position of a ticket
abbrev pub closing_of : AccountSpec → PriceList → ℤ → DealReason → ℕ → List Event → List Event
closing_of spec prices time_ms why t events =
    position_closed spec prices time_ms why events (item position_ticket t (open_positions events))

-- at last stop-out: while one is due, the position of least floating profit is closed, at most so many
abbrev pub stopped_out : AccountSpec → PriceList → ℤ → ℕ → Run → Run
stopped_out spec prices time_ms zero run = run
stopped_out spec prices time_ms (suc n) run =
    option_map_or
    (λ t. stopped_out spec prices time_ms n (act (closing_of spec prices time_ms reason.StopOut t) run))
    (worst spec prices run.events) run

-- swap and expiry add no deal
abbrev pub swapped_run : Quoted → Quote → Run
swapped_run q quote = record { events = q.events ++ swaps q quote; full = false }

abbrev pub expired_run : Quote → Run → Run
expired_run quote run = record run { events = run.events ++ expiries quote (orders_in_force run.events) }

abbrev pub triggered_run : AccountSpec → PriceList → Quote → Run → Run
triggered_run spec prices quote run =
    acts (triggered_by spec prices quote.time_ms) run (triggers quote run.events)

abbrev pub stopped_out_run : AccountSpec → PriceList → ℤ → Run → Run
stopped_out_run spec prices time_ms run =
    stopped_out spec prices time_ms (length (open_positions run.events)) run

-- the effect of a loud quote: swap, expiry, what fires, stop-out, at the quote's prices
abbrev pub effect : Quoted → Quote → Run
effect q quote =
    stopped_out_run q.spec (with_quote quote q).prices quote.time_ms
    (triggered_run q.spec (with_quote quote q).prices quote
    (expired_run quote (swapped_run q quote)))

-- the time of the last loud quote, 0 before the first
abbrev pub later : ℤ → Option ℤ → ℤ
later time None = time
later time (Some other) = greater time other

abbrev pub last_time : List (Option ℤ) → ℤ
last_time times = fold later (pos 0) times

-- closing: all orders are removed, and then all positions closed at the last loud prices, by rising ticket
abbrev pub removals : List Order → List Event
removals os = map (λ (o : Order). event.Removed o.ticket cause.Ended) os

abbrev pub closing : Quoted → Run
closing q = acts (closing_of q.spec q.prices (last_time q.times) reason.Client)
    (record { events = q.events ++ removals (orders_in_force q.events); full = false })
    (map position_ticket (open_positions q.events))
