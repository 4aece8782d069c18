-- The stages of a bar, at each of which it gives one quote.
use Rattle.std.specs.Prelude.{ℕ, List, drop, if◌then◌else◌, Option, ℤ}
use Rattle.market_types.specs.declared.bar.Bar.{Bar}
use Rattle.market_types.specs.declared.quote.Quote.{Quote}
use Rattle.market_data.specs.declared.bar_quotes.Stage.{Stage}
use Rattle.market_data.specs.declared.bar_quotes.Stage.TheVariants as stage
use Rattle.market_data.specs.Quotes.{rises, bar_quotes}

-- how many quotes of the bar are given before the stage
abbrev pub given_before : Stage → ℕ
given_before stage.Opening = 0
given_before stage.Early = 1
given_before stage.Late = 2
given_before stage.Closing = 3

-- the quotes that are left, where the first bar is at a stage
abbrev pub quotes_left : Option ℕ → ℕ → List Bar → Stage → List Quote
quotes_left spread digits bars at = drop (given_before at) (bar_quotes spread digits bars)

-- the price of the bar at a stage
abbrev pub price_at : Bar → Stage → ℤ
price_at bar stage.Opening = bar.o
price_at bar stage.Early = if rises bar then bar.l else bar.h
price_at bar stage.Late = if rises bar then bar.h else bar.l
price_at bar stage.Closing = bar.c

-- how many seconds after the bar's opening the stage is
abbrev pub seconds_at : Stage → ℕ
seconds_at stage.Opening = 0
seconds_at stage.Early = 20
seconds_at stage.Late = 40
seconds_at stage.Closing = 59
