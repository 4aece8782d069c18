-- Floating profit, equity, margin and stop-out (MetaTrader 5 Help, Margin Calculation, Stop Out).
use Rattle.std.specs.Prelude.{ℕ, Bool, true, false, ◌&&◌, ◌==◌, if◌then◌else◌, List, [], ◌∷◌, length, slice_get, suc, zero, Option, Some, None, unwrap_or, ℤ, pos, ◌+ℤ◌, ◌*ℤ◌, int_lt}
use Rattle.std.specs.List.{filter}
use Rattle.std.specs.Option.{option_map}
use Rattle.market_types.specs.declared.symbol_spec.SymbolSpec.{SymbolSpec}
use Rattle.account.specs.declared.account_spec.AccountSpec.{AccountSpec}
use Rattle.account.specs.declared.position.Position.{Position}
use Rattle.account.specs.declared.event.Event.{Event}
use Rattle.account.specs.Deals.{total, balance}
use Rattle.account.specs.Money.{profit, margin}
use Rattle.account.specs.Positions.{open_positions, position_ticket, same_side}
use Rattle.account.specs.Statistics.{greater}

-- the last loud Bid and Ask of each symbol
abbrev pub PriceList : Type 0
PriceList = List (Option (ℤ × ℤ))

-- how many units of the base currency a lot of the symbol has
abbrev pub contract_of : List SymbolSpec → ℕ → ℕ
contract_of specs symbol = unwrap_or (option_map (λ (s : SymbolSpec). s.contract) (slice_get specs symbol)) 0

-- what a position is closed at: Bid for a buy, Ask for a sell
abbrev pub closing_price : Bool → ℤ × ℤ → ℤ
closing_price true prices = prices.0
closing_price false prices = prices.1

-- Bid and Ask of a symbol, where it has prices
abbrev pub prices_at : PriceList → ℕ → Option (ℤ × ℤ)
prices_at prices symbol = unwrap_or (slice_get prices symbol) None

-- the floating profit of a position at prices: what it would gain, and its accrued swap
abbrev pub floating_at : List SymbolSpec → ℤ × ℤ → Position → ℤ
floating_at specs prices p =
    profit p.buy p.price (closing_price p.buy prices) (contract_of specs p.symbol) p.volume +ℤ p.swap

-- the same at the last loud prices of its symbol
unfoldable pub floating : List SymbolSpec → PriceList → Position → ℤ
floating specs prices p = floating_at specs (unwrap_or (prices_at prices p.symbol) (pos 0, pos 0)) p

-- equity is the balance and all floating profits
abbrev pub equity_of : List SymbolSpec → PriceList → ℤ → List Position → ℤ
equity_of specs prices balance ps = balance +ℤ total (floating specs prices) ps

abbrev pub equity : List SymbolSpec → PriceList → List Event → ℤ
equity specs prices events = equity_of specs prices (balance events) (open_positions events)

-- the margin of a position, at its own price
unfoldable pub position_margin : List SymbolSpec → ℕ → Position → ℤ
position_margin specs leverage p = margin leverage p.price (contract_of specs p.symbol) p.volume

-- the positions of a symbol on a side
abbrev pub is_on : ℕ → Bool → Position → Bool
is_on symbol buy p = p.symbol == symbol && same_side p.buy buy

abbrev pub side_margin : List SymbolSpec → ℕ → List Position → Bool → ℕ → ℤ
side_margin specs leverage ps buy symbol =
    total (position_margin specs leverage) (filter (is_on symbol buy) ps)

-- under hedging a symbol binds the greater of the sums of both sides
abbrev pub symbol_margin : List SymbolSpec → ℕ → List Position → ℕ → ℤ
symbol_margin specs leverage ps symbol =
    greater (side_margin specs leverage ps true symbol) (side_margin specs leverage ps false symbol)

-- the sum over all symbols below n
abbrev pub total_below : (ℕ → ℤ) → ℕ → ℤ
total_below f zero = pos 0
total_below f (suc n) = total_below f n +ℤ f n

-- the margin of positions: under netting that of all positions together, under hedging that of all symbols
abbrev pub margin_by : Bool → List SymbolSpec → ℕ → List Position → ℤ
margin_by false specs leverage ps = total (position_margin specs leverage) ps
margin_by true specs leverage ps = total_below (symbol_margin specs leverage ps) (length specs)

abbrev pub margin_of : AccountSpec → List Event → ℤ
margin_of spec events = margin_by spec.hedging spec.specs spec.leverage (open_positions events)

-- a stop-out is due: there is margin, and the equity is below that percentage of it
unfoldable pub is_due : ℕ → ℤ → ℤ → Bool
is_due stop_out equity margin =
    int_lt (pos 0) margin && int_lt (equity *ℤ pos 100) (margin *ℤ pos stop_out)

-- of two positions the one of less floating profit, at a tie the first
abbrev pub lesser : (Position → ℤ) → Position → Option Position → Position
lesser worth p None = p
lesser worth p (Some q) = if int_lt (worth q) (worth p) then q else p

-- the position of least floating profit, at a tie the first
abbrev pub least : (Position → ℤ) → List Position → Option Position
least worth [] = None
least worth (p ∷ ps) = Some (lesser worth p (least worth ps))

-- the position to close by stop-out, where one is due: that of least floating profit, at a tie the one of
-- the lowest ticket
abbrev pub worst : AccountSpec → PriceList → List Event → Option ℕ
worst spec prices events =
    if is_due spec.stop_out (equity spec.specs prices events) (margin_of spec events)
    then option_map position_ticket (least (floating spec.specs prices) (open_positions events))
    else None
