-- The bars that a series keeps of a symbol and period.
use Rattle.std.specs.Prelude.{ℕ, List, [], Option, Some, None, slice_get}
use Rattle.market_types.specs.declared.bar.Bar.{Bar}
use Rattle.market_types.specs.declared.period.Period.{Period}
use Rattle.series.specs.Stored.{Histories}
use Rattle.series.specs.Symbols.{of_period}

abbrev pub bars_of : Period → Option Histories → List Bar
bars_of period None = []
bars_of period (Some s) = (of_period period s).bars

-- of a symbol that is not there, none
abbrev pub kept_bars : List Histories → ℕ → Period → List Bar
kept_bars symbols symbol period = bars_of period (slice_get symbols symbol)
