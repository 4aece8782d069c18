-- The times of bars are whole minutes, and those of their quotes do not fall.
use Rattle.std.proofs.Common.{◌≡◌, ℕ, Option, Some, None, suc, ◌≤◌, ℤ, pos, negsuc, ◌+ℤ◌, ◌*ℤ◌, ◌≤ℤ◌, ◌<ℤ◌, true, List, [], ◌∷◌, sym, subst, arith}
use Rattle.std.specs.Prelude.{All, int_lt, int_le, map}
use Rattle.std.proofs.lemmas.Int.{ints}
use Rattle.std.proofs.lemmas.Bool.{and_parts}
use Rattle.market_types.specs.Ordered.{IsBar, IsMinute, is_rising, is_timed}
use Rattle.market_data.specs.Quotes.{AreTimed, bar_quotes, heard, number_at, tick_quote, quotes_of_rows}
use Rattle.market_types.specs.declared.bar.Bar.{Bar}
use Rattle.market_types.specs.declared.quote.Quote.{Quote}
use Rattle.market_types.specs.declared.tick.Tick.{Tick}
use Rattle.market_types.specs.declared.period.Period.{Period}
use Rattle.market_types.specs.declared.mode.Mode.{Mode}
use Rattle.market_types.specs.declared.mode.Mode.TheVariants as mode
use Rattle.market_types.specs.declared.rows.Rows.{Rows}
use Rattle.market_types.specs.declared.rows.Rows.TheVariants as rows
use Rattle.market_types.specs.declared.symbol_spec.SymbolSpec.{SymbolSpec}
use Rattle.market_data.specs.Markets.{AreRows}

-- moments apart are a minute apart
minute_apart : (a b : ℤ) → IsMinute a → IsMinute b → a <ℤ b → (a +ℤ pos 60) ≤ℤ b
minute_apart (negsuc m) b p q h = absurd (omega (arith, ints, p.from))
minute_apart (pos m) (negsuc n) p q h = absurd (omega (arith, ints, q.from))
minute_apart (pos m) (pos n) p q h = omega (arith, ints, p.minute, q.minute)

-- within a bar
within : (t : ℤ) (a b : ℕ) → a ≤ b → ((t +ℤ pos a) *ℤ pos 1000) ≤ℤ ((t +ℤ pos b) *ℤ pos 1000)
within t a b h = omega (arith, ints)

-- from a bar to the next
across : (t u : ℤ) → (t +ℤ pos 60) ≤ℤ u → ((t +ℤ pos 59) *ℤ pos 1000) ≤ℤ ((u +ℤ pos 0) *ℤ pos 1000)
across t u h = omega (arith, ints)

first_is : (bar : Bar) (bars : List Bar) → All IsBar (bar ∷ bars) → IsBar bar
first_is bar bars all = all 0 bar (omega arith)

rest_are : (bar : Bar) (bars : List Bar) → All IsBar (bar ∷ bars) → All IsBar bars
rest_are bar bars all k d small = all (suc k) d (omega arith)

rises_to : (a b : ℤ) → int_lt a b ≡ true → a <ℤ b
rises_to a b e = omega (arith, ints, e)

pub bars_timed : (spread : Option ℕ) (digits : ℕ) (bars : List Bar) → All IsBar bars → is_rising bars ≡ true → AreTimed (bar_quotes spread digits bars)
unfolding bar_quotes
bars_timed spread digits [] all r = tt
bars_timed spread digits (b ∷ []) all r = (within b.time 0 20 (omega arith), (within b.time 20 40 (omega arith), (within b.time 40 59 (omega arith), tt)))
bars_timed spread digits (b ∷ n ∷ more) all r =
    let up = and_parts _ _ r in
    let one = first_is b (n ∷ more) all in
    let two = first_is n more (rest_are b (n ∷ more) all) in (
      within b.time 0 20 (omega arith),
      (
        within b.time 20 40 (omega arith),
        (
          within b.time 40 59 (omega arith),
          (across b.time n.time (minute_apart b.time n.time one.time two.time (rises_to b.time n.time up.0)), bars_timed spread digits (n ∷ more) (rest_are b (n ∷ more) all) up.1),
        ),
      ),
    )

ticks_in_time : (a b : ℤ) → int_le a b ≡ true → a ≤ℤ b
ticks_in_time a b e = omega (arith, ints, e)

ticks_timed : (ticks : List Tick) → is_timed ticks ≡ true → AreTimed (map tick_quote ticks)
ticks_timed [] r = tt
ticks_timed (t ∷ []) r = tt
ticks_timed (t ∷ n ∷ more) r = let up = and_parts _ _ r in (ticks_in_time t.time_ms n.time_ms up.0, ticks_timed (n ∷ more) up.1)

-- which quotes are loud changes no times
heard_timed : (period : Option Period) (before : Option ℕ) (quotes : List Quote) → AreTimed quotes → AreTimed (heard period before quotes)
unfolding heard
heard_timed period before [] t = tt
heard_timed period before (q ∷ []) t = tt
heard_timed period before (q ∷ n ∷ more) t = (t.0, heard_timed period (number_at period q.time_ms) (n ∷ more) t.1)

rows_timed : (m : Mode) (period : Period) (spec : SymbolSpec) (r : Rows) → AreRows m r → AreTimed (quotes_of_rows m period spec r)
rows_timed mode.Ticks period spec (rows.Bars bars) are = absurd are
rows_timed mode.Ticks period spec (rows.Ticks ticks) are = ticks_timed ticks are.timed
rows_timed mode.Ohlc period spec (rows.Bars bars) are = heard_timed None None _ (bars_timed spec.spread spec.digits bars are.ranges are.rising)
rows_timed mode.Ohlc period spec (rows.Ticks ticks) are = absurd are
rows_timed mode.Opening period spec (rows.Bars bars) are = heard_timed (Some period) None _ (bars_timed spec.spread spec.digits bars are.ranges are.rising)
rows_timed mode.Opening period spec (rows.Ticks ticks) are = absurd are

pub rows_are_timed : (m : Mode) (period : Period) (spec : SymbolSpec) (r : Rows) (quotes : List Quote) → quotes ≡ quotes_of_rows m period spec r → AreRows m r → AreTimed quotes
rows_are_timed m period spec r quotes e are = subst (λ (q : List Quote). AreTimed q) (sym e) (rows_timed m period spec r are)
