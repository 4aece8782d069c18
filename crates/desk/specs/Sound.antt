-- What keeps every number of a desk within its type (own): volumes, accrued swap and nets of deals stay below
-- bounds that grow with the deals and the days.
use Rattle.std.specs.Prelude.{Bool, ◌≡◌, ℕ, ◌+◌, ◌*◌, ◌/◌, ◌^◌, ◌<◌, ◌≤◌, ◌++◌, false, true, List, [], ◌∷◌, length, take, slice_get, is_some, All, FitsSigned, Option, Some, None, IfSome, ⊤, ℤ, pos, ◌+ℤ◌, ◌≤ℤ◌, ◌<ℤ◌, unsigned_abs}
use Rattle.std.specs.Int.{w64}
use Rattle.market_types.specs.Ordered.{IsMoment, IsPrice}
use Rattle.market_data.specs.Quotes.{IsAsk}
use Rattle.account.specs.declared.account_spec.AccountSpec.{AccountSpec}
use Rattle.account.specs.declared.deal.Deal.{Deal}
use Rattle.account.specs.declared.order.Order.{Order}
use Rattle.account.specs.declared.position.Position.{Position}
use Rattle.account.specs.declared.event.Event.{Event}
use Rattle.account.specs.declared.event.Event.TheVariants as event
use Rattle.account.specs.Deals.{deals, trading_deals, net}
use Rattle.account.specs.Journal.{deposit_deal}
use Rattle.account.specs.Keyed.{item}
use Rattle.account.specs.Orders.{order_ticket, orders_in_force}
use Rattle.account.specs.Positions.{position_ticket, same_side, is_balance, after_deal, open_positions}
use Rattle.account.specs.Ranges.{IsAccount, IsHeld, MayDeal}
use Rattle.account.specs.StopOut.{PriceList, prices_at}
use Rattle.positions.specs.declared.fill.Fill.{Fill}
use Rattle.desk.specs.State.{most_deals}
use Rattle.desk.specs.Tickets.{greater_number, last_order}

-- the day of a time in milliseconds, counted from 1970-01-01
abbrev pub day_of : ℤ → ℕ
day_of time_ms = unsigned_abs time_ms / 86400000

-- the day of the last loud quote of a symbol, 0 before the first
abbrev pub day_of_quote : Option (Option ℤ) → ℕ
day_of_quote None = 0
day_of_quote (Some None) = 0
day_of_quote (Some (Some time_ms)) = day_of time_ms

unfoldable pub day_at : List (Option ℤ) → ℕ → ℕ
day_at times symbol = day_of_quote (slice_get times symbol)

-- the greatest volume of a deal that adds
abbrev pub most_volume : ℕ
most_volume = 10 ^ 11

-- an open position after so many deals: its symbol is one of the list and has prices, its volume is at most
-- that of so many deals, its swap at most what so many days accrue, and its ticket was taken
pub record IsKept (spec : AccountSpec) (prices : PriceList) (times : List (Option ℤ)) (last n : ℕ)
    (p : Position) : Type 0 where
  pub symbol : p.symbol < length spec.specs
  pub priced : is_some (prices_at prices p.symbol) ≡ true
  pub held : IsHeld p
  pub volume : p.volume ≤ℤ pos (n * most_volume)
  pub swap : unsigned_abs p.swap ≤ 2 ^ 66 * day_at times p.symbol
  pub from : 0 < p.ticket
  pub ticket : p.ticket ≤ last

-- an order in force: its symbol is one of the list and has prices, its volume is one, its ticket was taken
pub record IsStanding (spec : AccountSpec) (prices : PriceList) (last : ℕ) (o : Order) : Type 0 where
  pub symbol : o.symbol < length spec.specs
  pub priced : is_some (prices_at prices o.symbol) ≡ true
  pub some : pos 0 <ℤ o.volume
  pub most : o.volume ≤ℤ pos most_volume
  pub from : 0 < o.ticket
  pub ticket : o.ticket ≤ last

-- the net of a deal is small
abbrev pub IsSmall : Deal → Type 0
IsSmall d = unsigned_abs (net d) ≤ 2 ^ 102

-- an order in force has no ticket of an open position
abbrev pub AreApart : List Order → List Position → Type 0
AreApart os ps =
    (t : ℕ) → is_some (item order_ticket t os) ≡ true → item position_ticket t ps ≡ None

-- each symbol has one position at most
abbrev pub IsUnique : List Position → Type 0
IsUnique ps =
    (t u : ℕ) (p q : Position) → item position_ticket t ps ≡ Some p → item position_ticket u ps ≡ Some q
    → p.symbol ≡ q.symbol → t ≡ u

-- orders and positions have their own tickets, and under netting each symbol has one position at most
pub record IsTidy (hedging : Bool) (os : List Order) (ps : List Position) : Type 0 where
  pub apart : AreApart os ps
  pub unique : hedging ≡ false → IsUnique ps

-- what a change at a ticket leaves there is of the symbol of what stood there, or where nothing stood of a
-- symbol that no position has
pub record IsSole (ps : List Position) (u : ℕ) (new : Option Position) : Type 0 where
  pub kept : (p q : Position) → item position_ticket u ps ≡ Some p → new ≡ Some q → q.symbol ≡ p.symbol
  pub sole : (q r : Position) (t : ℕ) → item position_ticket u ps ≡ None → new ≡ Some q →
      item position_ticket t ps ≡ Some r → r.symbol ≡ q.symbol → ⊥

-- a journal whose numbers stay within their types
pub record IsSound (spec : AccountSpec) (prices : PriceList) (times : List (Option ℤ))
    (events : List Event) : Type 0 where
  pub account : IsAccount spec
  pub first : take 1 (deals events) ≡ deposit_deal spec ∷ []
  pub few : length (deals events) ≤ most_deals
  pub positions : All (IsKept spec prices times (last_order events) (length (deals events)))
      (open_positions events)
  pub orders : All (IsStanding spec prices (last_order events)) (orders_in_force events)
  pub nets : All IsSmall (trading_deals events)
  pub tidy : IsTidy spec.hedging (orders_in_force events) (open_positions events)

-- what a deal asks for to be added
pub record MayTrade (spec : AccountSpec) (prices : PriceList) (times : List (Option ℤ))
    (events : List Event) (d : Deal) : Type 0 where
  pub trade : is_balance d.kind ≡ false
  pub few : length (deals events) < most_deals
  pub symbol : d.symbol < length spec.specs
  pub same : IfSome (item position_ticket d.position (open_positions events)) (λ p. p.symbol ≡ d.symbol)
  pub types : MayDeal d (item position_ticket d.position (open_positions events))
  pub left : IfSome (after_deal d (item position_ticket d.position (open_positions events)))
      (IsKept spec prices times (greater_number (last_order events) d.order) (length (deals events) + 1))
  pub small : IsSmall d
  pub alone : item order_ticket d.position (orders_in_force events) ≡ None
  pub sole : spec.hedging ≡ false → IsSole (open_positions events) d.position
      (after_deal d (item position_ticket d.position (open_positions events)))

-- what an event asks for to be added
abbrev pub MayEnter :
    AccountSpec → PriceList → List (Option ℤ) → List Event → Event → Type 0
MayEnter spec prices times events (event.Added d) = MayTrade spec prices times events d
MayEnter spec prices times events (event.Placed o) =
    IsStanding spec prices (greater_number (last_order events) o.ticket) o
    × (item position_ticket o.ticket (open_positions events) ≡ None)
MayEnter spec prices times events (event.Modified o) = o.symbol < length spec.specs
MayEnter spec prices times events (event.Removed t cause) = ⊤
MayEnter spec prices times events (event.Triggered t) = ⊤
MayEnter spec prices times events (event.Stops t sl tp) = ⊤
MayEnter spec prices times events (event.Swap t amount) =
    IfSome (item position_ticket t (open_positions events))
    (λ p. unsigned_abs (p.swap +ℤ amount) ≤ 2 ^ 66 * day_at times p.symbol)

-- what events ask for to be added one after another
abbrev pub MayFollow :
    AccountSpec → PriceList → List (Option ℤ) → List Event → List Event → Type 0
MayFollow spec prices times events [] = ⊤
MayFollow spec prices times events (e ∷ es) =
    MayEnter spec prices times events e × MayFollow spec prices times (events ++ e ∷ []) es

-- so much that it may open, add or reverse; what only closes may be more
abbrev pub IsModest : Fill → Option Position → Type 0
IsModest f None = f.volume ≤ℤ pos most_volume
IsModest f (Some p) =
    (same_side p.buy f.buy ≡ true → f.volume ≤ℤ pos most_volume)
    × (p.volume <ℤ f.volume → f.volume ≤ℤ pos most_volume)

-- a fill of a desk that meets a position, or none: its symbol is one of the list, has prices and is that of
-- the position
pub record MayFill (spec : AccountSpec) (prices : PriceList) (f : Fill) (o : Option Position) : Type 0 where
  pub symbol : f.symbol < length spec.specs
  pub priced : is_some (prices_at prices f.symbol) ≡ true
  pub some : pos 0 <ℤ f.volume
  pub modest : IsModest f o
  pub volume : FitsSigned w64 f.volume
  pub bounded : f.volume ≤ℤ pos (2 ^ 61)
  pub price : FitsSigned w64 f.price
  pub same : IfSome o (λ p. p.symbol ≡ f.symbol)

-- Bid and Ask are prices that a quote of a price file may have
abbrev pub ArePrices : ℤ × ℤ → Type 0
ArePrices pair = IsPrice pair.0 × IsAsk pair.1

-- each symbol has its place in the list of prices and in that of times, which are moments
pub record AreQuoted (spec : AccountSpec) (prices : PriceList) (times : List (Option ℤ)) : Type 0 where
  pub each_price : length prices ≡ length spec.specs
  pub each_time : length times ≡ length spec.specs
  pub moments : All (λ time. IfSome time IsMoment) times
  pub ranges : All (λ pair. IfSome pair ArePrices) prices
  pub symbols : length spec.specs ≤ 255
