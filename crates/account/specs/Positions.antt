-- The open positions, read off the events (MetaTrader 5 Help, Netting and Hedging Systems).
use Rattle.std.specs.Prelude.{ℕ, Bool, true, false, not, if◌then◌else◌, List, [], Option, Some, None, ℤ, pos, neg_ℤ, ◌+ℤ◌, ◌-ℤ◌, int_lt}
use Rattle.std.specs.List.{fold}
use Rattle.std.specs.Option.{option_map}
use Rattle.account.specs.declared.deal.Deal.{Deal}
use Rattle.account.specs.declared.deal.DealKind.{DealKind}
use Rattle.account.specs.declared.deal.DealKind.TheVariants as kind
use Rattle.account.specs.declared.position.Position.{Position}
use Rattle.account.specs.declared.event.Event.{Event}
use Rattle.account.specs.declared.event.Event.TheVariants as event
use Rattle.account.specs.Keyed.{item, put}
use Rattle.account.specs.Money.{weighted_price}

abbrev pub position_ticket : Position → ℕ
position_ticket p = p.ticket

-- the deal buys
abbrev pub is_buy : DealKind → Bool
is_buy kind.Buy = true
is_buy kind.Sell = false
is_buy kind.Balance = false

-- the deal changes the balance alone
abbrev pub is_balance : DealKind → Bool
is_balance kind.Buy = false
is_balance kind.Sell = false
is_balance kind.Balance = true

-- both are buys, or both are sells
abbrev pub same_side : Bool → Bool → Bool
same_side true buy = buy
same_side false buy = not buy

-- the position that a deal opens: it has the deal's price, time, magic and comment, and no stops yet
abbrev pub opened : Deal → Position
opened d = record {
  ticket = d.position;
  symbol = d.symbol;
  buy = is_buy d.kind;
  volume = d.volume;
  price = d.price;
  sl = pos 0;
  tp = pos 0;
  swap = neg_ℤ d.swap;
  time_ms = d.time_ms;
  magic = d.magic;
  comment = d.comment;
}

-- the accrued swap that a deal leaves
abbrev pub swap_left : Deal → Position → ℤ
swap_left d p = p.swap -ℤ d.swap

-- more of a position, at the volume-weighted price of both parts
abbrev pub added : Deal → Position → Position
added d p = record p {
  volume = p.volume +ℤ d.volume;
  price = weighted_price p.volume p.price d.volume d.price;
  swap = swap_left d p;
}

-- less of a position, at the price that it has
abbrev pub reduced : Deal → Position → Position
reduced d p = record p { volume = p.volume -ℤ d.volume; swap = swap_left d p }

-- a position on the other side, at the price of the deal
abbrev pub reversed : Deal → Position → Position
reversed d p = record p {
  buy = is_buy d.kind;
  volume = d.volume -ℤ p.volume;
  price = d.price;
  swap = swap_left d p;
}

-- what a deal leaves of a position: the same side adds; the other side reduces, reverses or closes it
abbrev pub dealt : Deal → Position → Option Position
dealt d p =
    if same_side p.buy (is_buy d.kind) then Some (added d p)
    else if int_lt d.volume p.volume then Some (reduced d p)
    else if int_lt p.volume d.volume then Some (reversed d p)
    else None

-- what a deal leaves where a position is open, and where none is
abbrev pub after_deal : Deal → Option Position → Option Position
after_deal d None = Some (opened d)
after_deal d (Some p) = dealt d p

-- a position with other stops
abbrev pub with_stops : ℤ → ℤ → Position → Position
with_stops sl tp p = record p { sl = sl; tp = tp }

-- a position that accrued swap
abbrev pub with_swap : ℤ → Position → Position
with_swap amount p = record p { swap = p.swap +ℤ amount }

-- the open positions after an event
abbrev pub positions_after : List Position → Event → List Position
positions_after ps (event.Added d) =
    if is_balance d.kind then ps
    else put position_ticket d.position (after_deal d (item position_ticket d.position ps)) ps
positions_after ps (event.Stops t sl tp) =
    put position_ticket t (option_map (with_stops sl tp) (item position_ticket t ps)) ps
positions_after ps (event.Swap t amount) =
    put position_ticket t (option_map (with_swap amount) (item position_ticket t ps)) ps
positions_after ps (event.Placed o) = ps
positions_after ps (event.Modified o) = ps
positions_after ps (event.Removed t cause) = ps
positions_after ps (event.Triggered t) = ps

-- the open positions, by rising ticket
abbrev pub open_positions : List Event → List Position
open_positions events = fold positions_after [] events
