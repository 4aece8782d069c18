-- The price of a bar that an indicator takes, and the ranges and changes of bars that follow one another
-- (MQL5 Reference, Price Constants; Technical Indicators, iATR and iRSI).
use Rattle.std.specs.Prelude.{ℕ, ◌+◌, ◌-◌, ◌*◌, ◌≤◌, min, max, List, [], ◌∷◌, unsigned_abs}
use Rattle.fx8.specs.Rounding.{nearest}
use Rattle.market_types.specs.Ordered.{greatest_price}
use Rattle.market_types.specs.declared.bar.Bar.{Bar}
use Rattle.indicators.specs.declared.kinds.AppliedPrice.{AppliedPrice}
use Rattle.indicators.specs.declared.kinds.AppliedPrice.TheVariants as price
use Rattle.indicators.specs.declared.kinds.Way.{Way}
use Rattle.indicators.specs.declared.kinds.Way.TheVariants as way

-- the prices of a bar, which are above 0, in units of 10^-8
abbrev pub opening : Bar → ℕ
opening bar = unsigned_abs bar.o

abbrev pub high : Bar → ℕ
high bar = unsigned_abs bar.h

abbrev pub low : Bar → ℕ
low bar = unsigned_abs bar.l

abbrev pub closing : Bar → ℕ
closing bar = unsigned_abs bar.c

-- the prices of a bar are at most the greatest
pub record IsPriced (bar : Bar) : Type 0 where
  pub opening : opening bar ≤ greatest_price
  pub high : high bar ≤ greatest_price
  pub low : low bar ≤ greatest_price
  pub closing : closing bar ≤ greatest_price

-- the price that is taken of a bar, rounded half away from zero
abbrev pub applied_price : AppliedPrice → Bar → ℕ
applied_price price.Close bar = closing bar
applied_price price.Open bar = opening bar
applied_price price.High bar = high bar
applied_price price.Low bar = low bar
applied_price price.Median bar = nearest (high bar + low bar) 2
applied_price price.Typical bar = nearest (high bar + low bar + closing bar) 3
applied_price price.Weighted bar = nearest (high bar + low bar + 2 * closing bar) 4

-- what f makes of each item and the one before it, where the first stands after a given one
abbrev pub each_after : {A : Type 0} → (A → A → ℕ) → A → List A → List ℕ
each_after f before [] = []
each_after f before (x ∷ xs) = f before x ∷ each_after f x xs

-- what f makes of each item but the first and the one before it
abbrev pub each_but_first : {A : Type 0} → (A → A → ℕ) → List A → List ℕ
each_but_first f [] = []
each_but_first f (x ∷ xs) = each_after f x xs

-- the true range of a bar: from the lesser of its low and the close before to the greater of its high and the
-- close before
abbrev pub true_range : Bar → Bar → ℕ
true_range before bar = max (high bar) (closing before) - min (low bar) (closing before)

-- the ranges of bars, that of the first being its high less its low
unfoldable pub ranges : List Bar → List ℕ
ranges [] = []
ranges (bar ∷ bars) = (high bar - low bar) ∷ each_after true_range bar bars

-- how far a price is above the one before, or below it, and 0 where it is not
abbrev pub change : Way → ℕ → ℕ → ℕ
change way.Up before price = price - before
change way.Down before price = before - price
