-- How many quotes rows give.
use Rattle.std.proofs.Common.{◌≡◌, ℕ, ◌*◌, ◌≤◌, Option, Some, None, List, [], ◌∷◌, length, refl, ap, ◌∙◌, arith}
use Rattle.std.specs.Prelude.{map}
use Rattle.std.proofs.lemmas.List.{length-map}
use Rattle.market_types.specs.declared.bar.Bar.{Bar}
use Rattle.market_types.specs.declared.tick.Tick.{Tick}
use Rattle.market_types.specs.declared.quote.Quote.{Quote}
use Rattle.market_types.specs.declared.period.Period.{Period}
use Rattle.market_types.specs.declared.mode.Mode.{Mode}
use Rattle.market_types.specs.declared.mode.Mode.TheVariants as mode
use Rattle.market_types.specs.declared.rows.Rows.{Rows}
use Rattle.market_types.specs.declared.rows.Rows.TheVariants as rows
use Rattle.market_types.specs.declared.symbol_spec.SymbolSpec.{SymbolSpec}
use Rattle.market_types.specs.Ordered.{AreBars, AreTicks}
use Rattle.market_data.specs.Markets.{AreRows}
use Rattle.market_data.specs.Quotes.{bar_quotes, heard, number_at, tick_quote, quotes_of_rows}

heard_count : (period : Option Period) (before : Option ℕ) (quotes : List Quote) → length (heard period before quotes) ≡ length quotes
unfolding heard
heard_count period before [] = refl
heard_count period before (q ∷ more) = omega (arith, heard_count period (number_at period q.time_ms) more)

bar_count : (spread : Option ℕ) (digits : ℕ) (bars : List Bar) → length (bar_quotes spread digits bars) ≡ 4 * length bars
unfolding bar_quotes
bar_count spread digits [] = refl
bar_count spread digits (bar ∷ bars) = omega (arith, bar_count spread digits bars)

of_bars : (period : Option Period) (spread : Option ℕ) (digits : ℕ) (bars : List Bar) → AreBars bars → length (heard period None (bar_quotes spread digits bars)) ≤ 16000000
of_bars period spread digits bars are = omega (arith, heard_count period None (bar_quotes spread digits bars), bar_count spread digits bars, are.few)

of_ticks : (ticks : List Tick) → AreTicks ticks → length (map tick_quote ticks) ≤ 16000000
of_ticks ticks are = omega (arith, length-map ticks tick_quote, are.few)

few : (m : Mode) (period : Period) (spec : SymbolSpec) (r : Rows) → AreRows m r → length (quotes_of_rows m period spec r) ≤ 16000000
few mode.Ticks period spec (rows.Bars bars) are = absurd are
few mode.Ticks period spec (rows.Ticks ticks) are = of_ticks ticks are
few mode.Ohlc period spec (rows.Bars bars) are = of_bars None spec.spread spec.digits bars are
few mode.Ohlc period spec (rows.Ticks ticks) are = absurd are
few mode.Opening period spec (rows.Bars bars) are = of_bars (Some period) spec.spread spec.digits bars are
few mode.Opening period spec (rows.Ticks ticks) are = absurd are

pub rows_are_few : (m : Mode) (period : Period) (spec : SymbolSpec) (r : Rows) (quotes : List Quote) → quotes ≡ quotes_of_rows m period spec r → AreRows m r → length quotes ≤ 16000000
rows_are_few m period spec r quotes e are = omega (arith, ap length e, few m period spec r are)
