-- The quotes that rows give (MetaTrader 5 Help, Strategy Tester: Every tick based on real ticks, 1 minute
-- OHLC, Open prices only; the times within a bar are our own).
use Rattle.std.specs.Prelude.{ℕ, ◌-◌, ◌*◌, ◌/◌, ◌^◌, ◌==◌, Bool, true, not, List, [], ◌∷◌, ◌++◌, Option, Some, None, map, if◌then◌else◌, ℤ, pos, ◌+ℤ◌, ◌*ℤ◌, int_le, ◌≤ℤ◌, ◌<ℤ◌, unsigned_abs}
use Rattle.std.specs.Option.{unwrap_or}
use Rattle.market_types.specs.Ordered.{IsMoment, IsPrice}
use Rattle.market_types.specs.Words.{period_seconds}
use Rattle.market_types.specs.declared.bar.Bar.{Bar}
use Rattle.market_types.specs.declared.tick.Tick.{Tick}
use Rattle.market_types.specs.declared.quote.Quote.{Quote}
use Rattle.market_types.specs.declared.period.Period.{Period}
use Rattle.market_types.specs.declared.mode.Mode.{Mode}
use Rattle.market_types.specs.declared.mode.Mode.TheVariants as mode
use Rattle.market_types.specs.declared.rows.Rows.{Rows}
use Rattle.market_types.specs.declared.rows.Rows.TheVariants as rows
use Rattle.market_types.specs.declared.symbol_spec.SymbolSpec.{SymbolSpec}

-- a point, the last decimal that the symbol's prices show, in units of 10^-8
abbrev pub point : ℕ → ℕ
point digits = 10 ^ (8 - digits)

-- the spread in points: that of the symbol where it is set, else that of the bar
abbrev pub spread_of : Option ℕ → Bar → ℕ
spread_of spread bar = unwrap_or spread bar.spread

-- a loud quote so many seconds after its bar's opening: Bid is the price, and Ask is the spread above it
abbrev pub quote : Option ℕ → ℕ → Bar → ℕ → ℤ → Quote
quote spread digits bar seconds price = record {
  symbol = 0;
  time_ms = (bar.time +ℤ pos seconds) *ℤ pos 1000;
  bid = price;
  ask = price +ℤ pos (spread_of spread bar * point digits);
  last = pos 0;
  volume = pos 0;
  flags = 6;
  loud = true;
}

-- the bar closes at its opening price or above
abbrev pub rises : Bar → Bool
rises bar = int_le bar.o bar.c

-- the four quotes of a bar: open; low then high where it rises, else high then low; close
abbrev pub quotes_of_bar : Option ℕ → ℕ → Bar → List Quote
quotes_of_bar spread digits bar =
    quote spread digits bar 0 bar.o
    ∷ quote spread digits bar 20 (if rises bar then bar.l else bar.h)
    ∷ quote spread digits bar 40 (if rises bar then bar.h else bar.l)
    ∷ quote spread digits bar 59 bar.c ∷ []

-- the quotes of bars in turn
unfoldable pub bar_quotes : Option ℕ → ℕ → List Bar → List Quote
bar_quotes spread digits [] = []
bar_quotes spread digits (bar ∷ bars) = quotes_of_bar spread digits bar ++ bar_quotes spread digits bars

-- the number of a period's bar: the time in seconds by the period's length; times are from 1970 on
abbrev pub bar_number : Period → ℤ → ℕ
bar_number period time_ms = unsigned_abs time_ms / 1000 / period_seconds period

-- a quote that is loud or silent
abbrev pub with_loud : Bool → Quote → Quote
with_loud loud q = record {
  symbol = q.symbol;
  time_ms = q.time_ms;
  bid = q.bid;
  ask = q.ask;
  last = q.last;
  volume = q.volume;
  flags = q.flags;
  loud = loud;
}

-- whether a quote is loud: where a period is given, only the first of each of its bars, by the number of the
-- bar before
abbrev pub is_heard : Option Period → Option ℕ → ℤ → Bool
is_heard None before time_ms = true
is_heard (Some period) None time_ms = true
is_heard (Some period) (Some number) time_ms = not (number == bar_number period time_ms)

-- the number of the bar of a quote, where a period is given
abbrev pub number_at : Option Period → ℤ → Option ℕ
number_at None time_ms = None
number_at (Some period) time_ms = Some (bar_number period time_ms)

-- the quotes, of which those are loud that are heard
unfoldable pub heard : Option Period → Option ℕ → List Quote → List Quote
heard period before [] = []
heard period before (q ∷ more) =
    with_loud (is_heard period before q.time_ms) q ∷ heard period (number_at period q.time_ms) more

-- the loud quote of a tick
abbrev pub tick_quote : Tick → Quote
tick_quote t = record {
  symbol = 0;
  time_ms = t.time_ms;
  bid = t.bid;
  ask = t.ask;
  last = t.last;
  volume = t.volume;
  flags = t.flags;
  loud = true;
}

-- the period whose bars tell which quotes are loud, where not all are
abbrev pub heard_by : Mode → Period → Option Period
heard_by mode.Ticks period = None
heard_by mode.Ohlc period = None
heard_by mode.Opening period = Some period

-- the quotes of the rows of a symbol: each tick is one; of bars all are loud in the mode Ohlc, and in the
-- mode Opening the first of each bar of the tested period
abbrev pub quotes_of_rows : Mode → Period → SymbolSpec → Rows → List Quote
quotes_of_rows mode period spec (rows.Bars bars) =
    heard (heard_by mode period) None (bar_quotes spec.spread spec.digits bars)
quotes_of_rows mode period spec (rows.Ticks ticks) = map tick_quote ticks

-- Ask above 0 and at most 1,000,000 points above the greatest price
pub record IsAsk (units : ℤ) : Type 0 where
  pub above : pos 0 <ℤ units
  pub most : units ≤ℤ pos 1100000000000000

-- the ranges of a quote
pub record IsQuote (q : Quote) : Type 0 where
  pub time : IsMoment q.time_ms
  pub bid : IsPrice q.bid
  pub ask : IsAsk q.ask

-- the times of quotes do not fall
abbrev pub AreTimed : List Quote → Type 0
AreTimed [] = Unit {0}
AreTimed (q ∷ []) = Unit {0}
AreTimed (q ∷ next ∷ more) = (q.time_ms ≤ℤ next.time_ms) × AreTimed (next ∷ more)
