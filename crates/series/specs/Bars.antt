-- The bars that quotes make (MQL5 Reference, Timeseries and Indicators Access, structure MqlRates; MetaTrader
-- 5 Help, Strategy Tester: bars are built by Bid).
use Rattle.std.specs.Prelude.{ℕ, ◌+◌, ◌-◌, ◌*◌, ◌/◌, ◌^◌, ◌==◌, min, ℤ, pos, unsigned_abs, List, [], ◌∷◌, length, map, Option, Some, None, if◌then◌else◌, slice_get}
use Rattle.std.specs.List.{fold, filter}
use Rattle.std.specs.Int.{int_max, int_min}
use Rattle.market_types.specs.Words.{period_seconds}
use Rattle.market_types.specs.declared.bar.Bar.{Bar}
use Rattle.market_types.specs.declared.quote.Quote.{Quote}
use Rattle.market_types.specs.declared.period.Period.{Period}
use Rattle.market_data.specs.Quotes.{bar_number, point}
use Rattle.indicators.specs.Averages.{newest}

-- when the bar of a quote opens, in seconds: the number of its bar times the period's length
abbrev pub opens : Period → Quote → ℕ
opens period q = bar_number period q.time_ms * period_seconds period

-- the quotes of one bar: the first, and those after it
pub record Group : Type 0 where
  pub first : Quote
  pub others : List Quote

abbrev pub group : Quote → List Quote → Group
group first others = record { first = first; others = others }

-- a quote before the groups of those after it: neighbours of one bar stand in one group
abbrev pub grouped : Period → Quote → List Group → List Group
grouped period q [] = group q [] ∷ []
grouped period q (g ∷ groups) =
    if opens period q == opens period g.first
    then group q (g.first ∷ g.others) ∷ groups
    else group q [] ∷ g ∷ groups

-- the quotes of each bar, in order
abbrev pub groups : Period → List Quote → List Group
groups period [] = []
groups period (q ∷ quotes) = grouped period q (groups period quotes)

-- the last quote of a bar
abbrev pub last : Group → Quote
last g = fold (λ (before q : Quote). q) g.first g.others

-- Ask above Bid in whole points, from 0 to 4,294,967,295
abbrev pub spread : ℕ → Quote → ℕ
spread digits q = min ((unsigned_abs q.ask - unsigned_abs q.bid) / point digits) 4294967295

-- what is traded with a quote, in units of 10^-8
abbrev pub lots : Quote → ℕ
lots q = unsigned_abs q.volume

-- what is traded with the quotes of a bar
abbrev pub traded : Group → ℕ
traded g = fold (λ (sum : ℕ) (q : Quote). sum + lots q) (lots g.first) g.others

-- the bar of quotes: open, high, low and close are the first, greatest, least and last Bid; the tick volume
-- is the number of quotes, the spread that of the last, the volume the whole part of what is traded
abbrev pub bar_of : Period → ℕ → Group → Bar
bar_of period digits g = record {
  time = pos (opens period g.first);
  o = g.first.bid;
  h = fold (λ (high : ℤ) (q : Quote). int_max high q.bid) g.first.bid g.others;
  l = fold (λ (low : ℤ) (q : Quote). int_min low q.bid) g.first.bid g.others;
  c = (last g).bid;
  tick_volume = length g.others + 1;
  spread = spread digits (last g);
  volume = traded g / 10 ^ 8;
}

-- the bars of a period that quotes of a symbol of so many digits make
unfoldable pub bars : Period → ℕ → List Quote → List Bar
bars period digits quotes = map (bar_of period digits) (groups period quotes)

-- what is traded in the newest bar
unfoldable pub newest_traded : Period → List Quote → ℕ
newest_traded period quotes = fold (λ (before : ℕ) (g : Group). traded g) 0 (groups period quotes)

-- the quotes of a symbol
abbrev pub of_symbol : ℕ → List Quote → List Quote
of_symbol symbol quotes = filter (λ (q : Quote). q.symbol == symbol) quotes

abbrev pub bars_at : Period → Option ℕ → List Quote → List Bar
bars_at period None quotes = []
bars_at period (Some digits) quotes = bars period digits quotes

-- all bars of a symbol and period, where the symbols have so many digits; none of a symbol that is not there
abbrev pub all_bars : List ℕ → ℕ → Period → List Quote → List Bar
all_bars digits symbol period quotes = bars_at period (slice_get digits symbol) (of_symbol symbol quotes)

-- how many bars of a symbol and period are told
abbrev pub most_told : ℕ
most_told = 20000

-- the bars that are told: the newest 20,000
abbrev pub told_bars : List ℕ → ℕ → Period → List Quote → List Bar
told_bars digits symbol period quotes = newest most_told (all_bars digits symbol period quotes)
