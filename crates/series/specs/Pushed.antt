-- Bars as quotes come to them one after another.
use Rattle.std.specs.Prelude.{ℕ, ◌+◌, ◌-◌, ◌/◌, ◌^◌, ◌<◌, ◌==◌, pos, unsigned_abs, List, [], ◌∷◌, ◌++◌, length, Option, Some, None, slice_get, slice_set, if◌then◌else◌, IfSome}
use Rattle.std.specs.Int.{int_max, int_min}
use Rattle.market_types.specs.declared.bar.Bar.{Bar}
use Rattle.market_types.specs.declared.quote.Quote.{Quote}
use Rattle.market_types.specs.declared.period.Period.{Period}
use Rattle.series.specs.Bars.{opens, spread, lots}
use Rattle.series.specs.Stored.{History}

-- the bar that begins with a quote
abbrev pub opened : Period → ℕ → Quote → Bar
opened period digits q = record {
  time = pos (opens period q);
  o = q.bid;
  h = q.bid;
  l = q.bid;
  c = q.bid;
  tick_volume = 1;
  spread = spread digits q;
  volume = lots q / 10 ^ 8;
}

-- a bar with one more quote, where so much is then traded
abbrev pub grown : ℕ → Bar → Quote → ℕ → Bar
grown digits bar q traded = record {
  time = bar.time;
  o = bar.o;
  h = int_max bar.h q.bid;
  l = int_min bar.l q.bid;
  c = q.bid;
  tick_volume = bar.tick_volume + 1;
  spread = spread digits q;
  volume = traded / 10 ^ 8;
}

-- the newest bar, where a quote belongs to it
abbrev pub where_belongs : Period → Quote → Option Bar → Option Bar
where_belongs period q None = None
where_belongs period q (Some bar) = if unsigned_abs bar.time == opens period q then Some bar else None

abbrev pub newest_of : Period → Quote → List Bar → Option Bar
newest_of period q bars = where_belongs period q (slice_get bars (length bars - 1))

-- a history with one more quote: in the newest bar where it belongs to it, else in a bar of its own
abbrev pub with_quote_in : Period → ℕ → Quote → History → Option Bar → History
with_quote_in period digits q h None = record {
  bars = h.bars ++ opened period digits q ∷ [];
  traded = lots q;
}
with_quote_in period digits q h (Some newest) = record {
  bars = slice_set h.bars (length h.bars - 1) (grown digits newest q (h.traded + lots q));
  traded = h.traded + lots q;
}

unfoldable pub with_quote : Period → ℕ → Quote → History → History
with_quote period digits q h = with_quote_in period digits q h (newest_of period q h.bars)

-- the volumes of a bar fit their types
pub record HasVolumes (bar : Bar) : Type 0 where
  pub ticks : bar.tick_volume < 2 ^ 64
  pub volume : bar.volume < 2 ^ 64

-- so do those of the newest bar with one more quote
abbrev pub FitsWith : ℕ → Quote → ℕ → Option Bar → Type 0
FitsWith digits q traded newest = IfSome newest (λ bar. HasVolumes (grown digits bar q (traded + lots q)))
