-- Whether there is money for a deal (MetaTrader 5 Help, Margin Calculation; MQL5 Reference, Trade Server Return
-- Codes; the comparison is our own).
use Rattle.std.specs.Prelude.{◌≤◌, ◌++◌, ◌^◌, Bool, not, ◌&&◌, List, [], length, All, FitsSigned, Option, Some, None, Result, Ok, Err, ℤ, pos, ◌+ℤ◌, ◌≤ℤ◌, unsigned_abs, int_lt}
use Rattle.std.specs.Int.{w128}
use Rattle.account.specs.declared.account_spec.AccountSpec.{AccountSpec}
use Rattle.account.specs.declared.deal.Deal.{Deal}
use Rattle.account.specs.declared.position.Position.{Position}
use Rattle.account.specs.declared.event.Event.{Event}
use Rattle.account.specs.Deals.{total, net, deal_of, balance}
use Rattle.account.specs.Positions.{open_positions}
use Rattle.account.specs.Ranges.{IsHeld, HasPrices, Floats}
use Rattle.account.specs.StopOut.{PriceList, equity_of, equity, margin_by, margin_of}
use Rattle.positions.specs.declared.fill.Fill.{Fill}
use Rattle.positions.specs.declared.fill.FillFault.{FillFault}
use Rattle.positions.specs.Fills.{filled}

-- there is no money for more events where the margin with them exceeds both the margin without them and the
-- equity with them
unfoldable pub has_money : AccountSpec → PriceList → List Event → List Event → Bool
has_money spec prices events more =
    not (int_lt (margin_of spec events) (margin_of spec (events ++ more))
    && int_lt (equity spec.specs prices (events ++ more)) (margin_of spec (events ++ more)))

-- what a fill adds; one that is refused adds nothing
abbrev pub added_by : Result (List Event) FillFault → List Event
added_by (Ok es) = es
added_by (Err e) = []

-- there is money for a fill
abbrev pub has_money_for : AccountSpec → PriceList → List Event → Fill → Bool
has_money_for spec prices events f =
    has_money spec prices events (added_by (filled spec.hedging spec.specs (open_positions events) f))

-- what an event adds to the balance
abbrev pub net_or_none : Option Deal → ℤ
net_or_none None = pos 0
net_or_none (Some d) = net d

abbrev pub event_net : Event → ℤ
event_net e = net_or_none (deal_of e)

-- a position with room for one more deal (own): its symbol has prices, and its volume and its accrued swap are
-- far from the ends of their types
pub record IsRoomy (prices : PriceList) (p : Position) : Type 0 where
  pub priced : HasPrices prices p
  pub volume : p.volume ≤ℤ pos (2 ^ 62)
  pub swap : unsigned_abs p.swap ≤ 2 ^ 100

-- an account with room for one more deal
pub record HasRoom (spec : AccountSpec) (prices : PriceList) (events : List Event) : Type 0 where
  pub symbols : length spec.specs ≤ 255
  pub positions : All (IsRoomy prices) (open_positions events)
  pub balance : unsigned_abs (balance events) ≤ 2 ^ 120

-- positions that further events leave, and the balance with them, can be counted in 128 bits
pub record IsCountable (spec : AccountSpec) (prices : PriceList) (balance : ℤ) (left : List Position)
    (more : List Event) : Type 0 where
  pub held : All IsHeld left
  pub few : length left ≤ 65536
  pub floats : All (Floats spec.specs prices) left
  pub nets : All (λ e. FitsSigned w128 (event_net e)) more
  pub margin : FitsSigned w128 (margin_by spec.hedging spec.specs spec.leverage left)
  pub with_nets : FitsSigned w128 (balance +ℤ total event_net more)
  pub worth : FitsSigned w128 (equity_of spec.specs prices (balance +ℤ total event_net more) left)
