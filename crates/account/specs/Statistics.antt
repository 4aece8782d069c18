-- Statistics over all deals but the deposit (MQL5 Reference, ENUM_STATISTICS).
use Rattle.std.specs.Prelude.{Bool, true, false, ◌&&◌, if◌then◌else◌, List, length, ℤ, pos, ◌+ℤ◌, ◌-ℤ◌, int_lt}
use Rattle.std.specs.List.{fold, filter}
use Rattle.account.specs.declared.deal.Deal.{Deal}
use Rattle.account.specs.declared.deal.DealEntry.{DealEntry}
use Rattle.account.specs.declared.deal.DealEntry.TheVariants as entry
use Rattle.account.specs.declared.stats.Stats.{Stats}
use Rattle.account.specs.declared.event.Event.{Event}
use Rattle.account.specs.Deals.{total, net, trading_deals}

-- the deal closed a position, or a part of it
abbrev pub closes : DealEntry → Bool
closes entry.In = false
closes entry.Out = true
closes entry.InOut = true
closes entry.OutBy = true

abbrev pub is_trade : Deal → Bool
is_trade d = closes d.entry

-- the net where it is above 0, or below 0; else 0
unfoldable pub gain : Deal → ℤ
gain d = if int_lt (pos 0) (net d) then net d else pos 0

unfoldable pub loss : Deal → ℤ
loss d = if int_lt (net d) (pos 0) then net d else pos 0

-- a trade with a net above 0, or below 0
unfoldable pub is_profit_trade : Deal → Bool
is_profit_trade d = is_trade d && int_lt (pos 0) (net d)

unfoldable pub is_loss_trade : Deal → Bool
is_loss_trade d = is_trade d && int_lt (net d) (pos 0)

-- an amount that was followed: as it stands, the highest so far, and the greatest fall from the highest so
-- far
pub record Path : Type 0 where
  pub now : ℤ
  pub highest : ℤ
  pub fall : ℤ

unfoldable pub greater : ℤ → ℤ → ℤ
greater a b = if int_lt a b then b else a

-- a path that begins
abbrev pub begun : ℤ → Path
begun amount = record { now = amount; highest = amount; fall = pos 0 }

-- a path that comes to an amount
abbrev pub moved : Path → ℤ → Path
moved path amount = record {
  now = amount;
  highest = greater path.highest amount;
  fall = greater path.fall (greater path.highest amount -ℤ amount);
}

-- the path of the balance goes on with a deal
abbrev pub path_after : Path → Deal → Path
path_after path d = moved path (path.now +ℤ net d)

-- the path of the balance from the deposit on
abbrev pub balance_path : ℤ → List Deal → Path
balance_path deposit ds = fold path_after (begun deposit) ds

-- the statistics of deals after a deposit; the fall of the equity is the one that was sampled
abbrev pub statistics : ℤ → List Deal → ℤ → Stats
statistics deposit ds equity_dd = record {
  initial_deposit = deposit;
  profit = total net ds;
  gross_profit = total gain ds;
  gross_loss = total loss ds;
  deals = length ds;
  trades = length (filter is_trade ds);
  profit_trades = length (filter is_profit_trade ds);
  loss_trades = length (filter is_loss_trade ds);
  balance_dd = (balance_path deposit ds).fall;
  equity_dd = equity_dd;
}

abbrev pub stats : ℤ → List Event → ℤ → Stats
stats deposit events equity_dd = statistics deposit (trading_deals events) equity_dd
