-- The bars of one symbol in each period.
use Rattle.std.specs.Prelude.{◌≤◌, ℕ, []}
use Rattle.market_types.specs.declared.quote.Quote.{Quote}
use Rattle.market_types.specs.declared.period.Period.{Period}
use Rattle.market_types.specs.declared.period.Period.TheVariants as period
use Rattle.series.specs.declared.symbol_bars.SymbolBars.{SymbolBars}
use Rattle.series.specs.Pushed.{with_quote, newest_of, FitsWith}
use Rattle.series.specs.Stored.{History, Histories, history_of}

-- what is kept of a symbol
abbrev pub histories : SymbolBars → Histories
histories s = record {
  digits = s.digits;
  m1 = history_of s.m1;
  m5 = history_of s.m5;
  m15 = history_of s.m15;
  m30 = history_of s.m30;
  h1 = history_of s.h1;
  h4 = history_of s.h4;
  d1 = history_of s.d1;
}

-- the history in a period
abbrev pub of_period : Period → Histories → History
of_period period.M1 s = s.m1
of_period period.M5 s = s.m5
of_period period.M15 s = s.m15
of_period period.M30 s = s.m30
of_period period.H1 s = s.h1
of_period period.H4 s = s.h4
of_period period.D1 s = s.d1

abbrev pub no_bars : History
no_bars = record { bars = []; traded = 0 }

-- no bars in any period
abbrev pub without_bars : ℕ → Histories
without_bars digits = record {
  digits = digits;
  m1 = no_bars;
  m5 = no_bars;
  m15 = no_bars;
  m30 = no_bars;
  h1 = no_bars;
  h4 = no_bars;
  d1 = no_bars;
}

-- one more quote in each period
abbrev pub with_quote_each : Quote → Histories → Histories
with_quote_each q s = record {
  digits = s.digits;
  m1 = with_quote period.M1 s.digits q s.m1;
  m5 = with_quote period.M5 s.digits q s.m5;
  m15 = with_quote period.M15 s.digits q s.m15;
  m30 = with_quote period.M30 s.digits q s.m30;
  h1 = with_quote period.H1 s.digits q s.h1;
  h4 = with_quote period.H4 s.digits q s.h4;
  d1 = with_quote period.D1 s.digits q s.d1;
}

-- the volumes of a history's newest bar fit their types with one more quote
abbrev pub Fits : Period → ℕ → Quote → History → Type 0
Fits period digits q h = FitsWith digits q h.traded (newest_of period q h.bars)

-- so they do in each period
pub record FitEach (q : Quote) (s : Histories) : Type 0 where
  pub m1 : Fits period.M1 s.digits q s.m1
  pub m5 : Fits period.M5 s.digits q s.m5
  pub m15 : Fits period.M15 s.digits q s.m15
  pub m30 : Fits period.M30 s.digits q s.m30
  pub h1 : Fits period.H1 s.digits q s.h1
  pub h4 : Fits period.H4 s.digits q s.h4
  pub d1 : Fits period.D1 s.digits q s.d1

-- there is room for one more bar in each period
pub record HasRoom (s : SymbolBars) : Type 0 where
  pub m1 : 1 ≤ s.m1.spare
  pub m5 : 1 ≤ s.m5.spare
  pub m15 : 1 ≤ s.m15.spare
  pub m30 : 1 ≤ s.m30.spare
  pub h1 : 1 ≤ s.h1.spare
  pub h4 : 1 ≤ s.h4.spare
  pub d1 : 1 ≤ s.d1.spare
