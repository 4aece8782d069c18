-- What a series keeps, and the quotes that it stands for.
use Rattle.std.specs.Prelude.{◌≡◌, ◌<◌, ◌≤◌, ℕ, List, All, length, map, slice_index_or}
use Rattle.market_types.specs.declared.quote.Quote.{Quote}
use Rattle.market_types.specs.declared.period.Period.{Period}
use Rattle.indicators.specs.Values.{IsIndicator}
use Rattle.series.specs.declared.held.Held.{Held}
use Rattle.series.specs.Bars.{bars, newest_traded, of_symbol}
use Rattle.series.specs.Pushed.{HasVolumes}
use Rattle.series.specs.Stored.{History, Histories}
use Rattle.series.specs.Symbols.{of_period}

-- the history that quotes of a symbol make
unfoldable pub history : Period → ℕ → List Quote → History
history period digits quotes = record {
  bars = bars period digits quotes;
  traded = newest_traded period quotes;
}

-- the histories of a symbol are those of its quotes
abbrev pub AreHistories : Histories → List Quote → Type 0
AreHistories s quotes = (period : Period) → of_period period s ≡ history period s.digits quotes

-- the symbols' histories, and the indicators that are held, in the order of their numbers
pub record Kept : Type 0 where
  pub symbols : List Histories
  pub held : List Held

-- how many digits each symbol has
abbrev pub digits : Kept → List ℕ
digits kept = map (λ (s : Histories). s.digits) kept.symbols

-- what is kept stands for quotes: the histories of each symbol are those of its quotes
abbrev pub StandsFor : Kept → List Quote → Type 0
StandsFor kept quotes = (symbol : ℕ) (none : Histories) → symbol < length kept.symbols
    → AreHistories (slice_index_or kept.symbols symbol none) (of_symbol symbol quotes)

-- the volumes of every bar of a symbol's quotes fit their types
abbrev pub HaveVolumes : ℕ → List Quote → Type 0
HaveVolumes digits quotes = (period : Period) → All HasVolumes (bars period digits quotes)

abbrev pub HaveVolumesOf : Kept → List Quote → Type 0
HaveVolumesOf kept quotes = (symbol : ℕ) (none : Histories) → symbol < length kept.symbols
    → HaveVolumes (slice_index_or kept.symbols symbol none).digits (of_symbol symbol quotes)

-- the indicators that are held are at most 64, and their numbers in range
pub record AreHeld (held : List Held) : Type 0 where
  pub few : length held ≤ 64
  pub indicators : All (λ (h : Held). IsIndicator h.indicator) held
