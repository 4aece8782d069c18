-- The totals that a ledger keeps: readings of the deals after the deposit, and how one more deal changes
-- them (own).
use Rattle.std.specs.Prelude.{ℕ, ◌+◌, ◌<◌, ◌^◌, Bool, if◌then◌else◌, List, FitsSigned, ℤ, pos, ◌+ℤ◌, ◌-ℤ◌}
use Rattle.std.specs.Int.{w128}
use Rattle.account.specs.declared.deal.Deal.{Deal}
use Rattle.account.specs.declared.stats.Stats.{Stats}
use Rattle.account.specs.declared.totals.Totals.{Totals}
use Rattle.account.specs.Deals.{net}
use Rattle.account.specs.Statistics.{gain, loss, is_trade, is_profit_trade, is_loss_trade, greater, balance_path, statistics}

abbrev pub totals_of : ℤ → List Deal → Totals
totals_of deposit ds = record {
  balance = (balance_path deposit ds).now;
  highest = (balance_path deposit ds).highest;
  stats = statistics deposit ds (pos 0);
}

-- one more where the test holds
abbrev pub counted : Bool → ℕ → ℕ
counted test n = if test then n + 1 else n

-- the balance after a deal, its highest so far, and how far it is below that
abbrev pub balance_after : Totals → Deal → ℤ
balance_after t d = t.balance +ℤ net d

abbrev pub highest_after : Totals → Deal → ℤ
highest_after t d = greater t.highest (balance_after t d)

abbrev pub fall_after : Totals → Deal → ℤ
fall_after t d = highest_after t d -ℤ balance_after t d

abbrev pub stats_after : Totals → Deal → Stats
stats_after t d = record t.stats {
  profit = t.stats.profit +ℤ net d;
  gross_profit = t.stats.gross_profit +ℤ gain d;
  gross_loss = t.stats.gross_loss +ℤ loss d;
  deals = t.stats.deals + 1;
  trades = counted (is_trade d) t.stats.trades;
  profit_trades = counted (is_profit_trade d) t.stats.profit_trades;
  loss_trades = counted (is_loss_trade d) t.stats.loss_trades;
  balance_dd = greater t.stats.balance_dd (fall_after t d);
}

abbrev pub totals_after : Totals → Deal → Totals
totals_after t d = record {
  balance = balance_after t d;
  highest = highest_after t d;
  stats = stats_after t d;
}

-- no total leaves its type with a deal
pub record FitsAfter (t : Totals) (d : Deal) : Type 0 where
  pub one : FitsSigned w128 (net d)
  pub balance : FitsSigned w128 (balance_after t d)
  pub fall : FitsSigned w128 (fall_after t d)
  pub profit : FitsSigned w128 (t.stats.profit +ℤ net d)
  pub gross_profit : FitsSigned w128 (t.stats.gross_profit +ℤ gain d)
  pub gross_loss : FitsSigned w128 (t.stats.gross_loss +ℤ loss d)
  pub deals : t.stats.deals < 2 ^ 31
  pub trades : t.stats.trades < 2 ^ 31
  pub profit_trades : t.stats.profit_trades < 2 ^ 31
  pub loss_trades : t.stats.loss_trades < 2 ^ 31
