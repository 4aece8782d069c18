-- A market as contracts see it, and the quotes that it gives.
use Rattle.std.specs.Prelude.{◌≤◌, List, [], ◌∷◌, length, All}
use Rattle.market_types.specs.Ordered.{AreBars, AreTicks}
use Rattle.market_types.specs.Ranges.{IsSpec}
use Rattle.market_types.specs.declared.quote.Quote.{Quote}
use Rattle.market_types.specs.declared.period.Period.{Period}
use Rattle.market_types.specs.declared.mode.Mode.{Mode}
use Rattle.market_types.specs.declared.mode.Mode.TheVariants as mode
use Rattle.market_types.specs.declared.rows.Rows.{Rows}
use Rattle.market_types.specs.declared.rows.Rows.TheVariants as rows
use Rattle.market_data.specs.declared.market.Listed.{Listed}
use Rattle.market_data.specs.Quotes.{quotes_of_rows}

-- the mode and the tested period, and each symbol with its rows
pub record Listing : Type 0 where
  pub mode : Mode
  pub period : Period
  pub listed : List Listed

-- rows as the mode needs them, which keep the rules of price files
abbrev pub AreRows : Mode → Rows → Type 0
AreRows mode.Ticks (rows.Bars bars) = ⊥
AreRows mode.Ticks (rows.Ticks ticks) = AreTicks ticks
AreRows mode.Ohlc (rows.Bars bars) = AreBars bars
AreRows mode.Ohlc (rows.Ticks ticks) = ⊥
AreRows mode.Opening (rows.Bars bars) = AreBars bars
AreRows mode.Opening (rows.Ticks ticks) = ⊥

-- a symbol of a market: its numbers are within their ranges, and its rows are those that the mode needs
pub record IsListed (mode : Mode) (l : Listed) : Type 0 where
  pub spec : IsSpec l.spec
  pub rows : AreRows mode l.rows

-- a market has at most one symbol
pub record IsListing (m : Listing) : Type 0 where
  pub listed : All (IsListed m.mode) m.listed
  pub few : length m.listed ≤ 1

-- the quotes of the symbols, of which there is at most one
abbrev pub quotes_listed : Mode → Period → List Listed → List Quote
quotes_listed mode period [] = []
quotes_listed mode period (l ∷ more) = quotes_of_rows mode period l.spec l.rows

-- the quotes of a market
abbrev pub quotes : Listing → List Quote
quotes m = quotes_listed m.mode m.period m.listed
