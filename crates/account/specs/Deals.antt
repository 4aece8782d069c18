-- The deals and the balance, read off the events (MetaTrader 5 Help, History of deals).
use Rattle.std.specs.Prelude.{List, [], ◌∷◌, Option, Some, None, drop, ℤ, pos, ◌+ℤ◌}
use Rattle.std.specs.List.{filter_map}
use Rattle.account.specs.declared.deal.Deal.{Deal}
use Rattle.account.specs.declared.event.Event.{Event}
use Rattle.account.specs.declared.event.Event.TheVariants as event

-- a sum of whole numbers
abbrev pub total : {X : Type 0} → (X → ℤ) → List X → ℤ
total f [] = pos 0
total f (x ∷ xs) = f x +ℤ total f xs

-- the deal that an event adds
abbrev pub deal_of : Event → Option Deal
deal_of (event.Added d) = Some d
deal_of (event.Placed o) = None
deal_of (event.Modified o) = None
deal_of (event.Removed t cause) = None
deal_of (event.Triggered t) = None
deal_of (event.Stops t sl tp) = None
deal_of (event.Swap t amount) = None

-- the deals, of which the first is the deposit
abbrev pub deals : List Event → List Deal
deals events = filter_map deal_of events

-- all deals but the deposit
abbrev pub trading_deals : List Event → List Deal
trading_deals events = drop 1 (deals events)

abbrev pub profit_of : Deal → ℤ
profit_of d = d.profit

abbrev pub swap_of : Deal → ℤ
swap_of d = d.swap

abbrev pub commission_of : Deal → ℤ
commission_of d = d.commission

-- what a deal adds to the balance: profit, swap and commission
unfoldable pub net : Deal → ℤ
net d = d.profit +ℤ d.swap +ℤ d.commission

-- the balance is the sum of the nets of all deals; the deposit is the first deal's profit
abbrev pub balance : List Event → ℤ
balance events = total net (deals events)
