-- The ranges of an account's numbers, and what keeps sums within their types.
use Rattle.std.specs.Prelude.{◌≡◌, ℕ, ◌≤◌, ◌<◌, false, List, length, All, MatchBool, Option, IfSome, is_none, is_some, true, ⊤, FitsSigned, pos, ◌≤ℤ◌, ◌<ℤ◌, ◌+ℤ◌}
use Rattle.std.specs.Int.{w64, w128}
use Rattle.market_types.specs.Ranges.{IsSpec}
use Rattle.market_types.specs.declared.symbol_spec.SymbolSpec.{SymbolSpec}
use Rattle.account.specs.declared.account_spec.AccountSpec.{AccountSpec}
use Rattle.account.specs.declared.deal.Deal.{Deal}
use Rattle.account.specs.declared.position.Position.{Position}
use Rattle.account.specs.declared.event.Event.{Event}
use Rattle.account.specs.declared.event.Event.TheVariants as event
use Rattle.account.specs.Keyed.{item}
use Rattle.account.specs.Deals.{total, net, balance, trading_deals}
use Rattle.account.specs.Positions.{position_ticket, is_balance, dealt, after_deal, open_positions}
use Rattle.account.specs.Statistics.{gain, loss, balance_path}
use Rattle.account.specs.StopOut.{PriceList, prices_at, floating, equity, margin_of}

-- the numbers of an account are within their ranges
pub record IsAccount (spec : AccountSpec) : Type 0 where
  pub deposit_from : pos 1 ≤ℤ spec.deposit
  pub deposit_to : spec.deposit ≤ℤ pos 100000000000
  pub leverage_from : 1 ≤ spec.leverage
  pub leverage_to : spec.leverage ≤ 10000
  pub stop_out : spec.stop_out ≤ 100
  pub specs : All IsSpec spec.specs

-- the numbers of an open position are those that its type holds, and some of it is open
pub record IsHeld (p : Position) : Type 0 where
  pub some : pos 0 <ℤ p.volume
  pub volume : FitsSigned w64 p.volume
  pub price : FitsSigned w64 p.price
  pub swap : FitsSigned w128 p.swap

-- a position keeps the types of its numbers before and after a deal
abbrev pub MayDeal : Deal → Option Position → Type 0
MayDeal d o = IfSome o IsHeld × IfSome (after_deal d o) IsHeld

-- a position that a deal does not close, and that keeps its types
pub record MayChange (d : Deal) (p : Position) : Type 0 where
  pub was : IsHeld p
  pub left : is_none (dealt d p) ≡ false
  pub held : IfSome (dealt d p) IsHeld

-- what an event leaves of its position keeps the types of its numbers
abbrev pub KeepsTypes : List Position → Event → Type 0
KeepsTypes ps (event.Added d) =
    MatchBool (is_balance d.kind) ⊤ (MayDeal d (item position_ticket d.position ps))
KeepsTypes ps (event.Swap t amount) =
    IfSome (item position_ticket t ps) (λ p. FitsSigned w128 (p.swap +ℤ amount))
KeepsTypes ps (event.Placed o) = ⊤
KeepsTypes ps (event.Modified o) = ⊤
KeepsTypes ps (event.Removed t cause) = ⊤
KeepsTypes ps (event.Triggered t) = ⊤
KeepsTypes ps (event.Stops t sl tp) = ⊤

-- a symbol of the list
abbrev pub IsSymbol : AccountSpec → ℕ → Type 0
IsSymbol spec symbol = symbol < length spec.specs

-- the symbol of a deal is one of the list, and that of its position where it is open
pub record IsDealOf (spec : AccountSpec) (ps : List Position) (d : Deal) : Type 0 where
  pub symbol : IsSymbol spec d.symbol
  pub same : IfSome (item position_ticket d.position ps) (λ p. p.symbol ≡ d.symbol)

-- the symbol of a deal or an order in the event is one of the list, and that of the deal's position
abbrev pub IsEventOf : AccountSpec → List Position → Event → Type 0
IsEventOf spec ps (event.Added d) = IsDealOf spec ps d
IsEventOf spec ps (event.Placed o) = IsSymbol spec o.symbol
IsEventOf spec ps (event.Modified o) = IsSymbol spec o.symbol
IsEventOf spec ps (event.Removed t cause) = ⊤
IsEventOf spec ps (event.Triggered t) = ⊤
IsEventOf spec ps (event.Stops t sl tp) = ⊤
IsEventOf spec ps (event.Swap t amount) = ⊤

-- no balance, margin or statistic leaves 128 bits
pub record IsWithin (spec : AccountSpec) (events : List Event) : Type 0 where
  pub balance : FitsSigned w128 (balance events)
  pub margin : FitsSigned w128 (margin_of spec events)
  pub profit : FitsSigned w128 (total net (trading_deals events))
  pub gross_profit : FitsSigned w128 (total gain (trading_deals events))
  pub gross_loss : FitsSigned w128 (total loss (trading_deals events))
  pub balance_dd : FitsSigned w128 (balance_path spec.deposit (trading_deals events)).fall

-- the symbol of a position has prices
abbrev pub HasPrices : PriceList → Position → Type 0
HasPrices prices p = is_some (prices_at prices p.symbol) ≡ true

-- a position whose floating profit can be computed: its symbol has prices, and the profit fits
pub record Floats (specs : List SymbolSpec) (prices : PriceList) (p : Position) : Type 0 where
  pub held : IsHeld p
  pub priced : HasPrices prices p
  pub fits : FitsSigned w128 (floating specs prices p)

-- the symbol of each open position has prices, and no floating profit and no equity leaves 128 bits at them
pub record IsPriced (spec : AccountSpec) (prices : PriceList) (events : List Event) : Type 0 where
  pub priced : All (HasPrices prices) (open_positions events)
  pub floating : All (λ p. FitsSigned w128 (floating spec.specs prices p)) (open_positions events)
  pub equity : FitsSigned w128 (equity spec.specs prices events)
