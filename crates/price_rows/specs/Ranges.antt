-- The ranges that the numbers of rows keep.
use Rattle.std.specs.Prelude.{ℕ, ◌-◌, ◌^◌, ◌≤◌, ◌<◌, Option, IfSome}
use Rattle.market_types.specs.Ordered.{greatest_price}
use Rattle.price_rows.specs.declared.bar_row.BarNumbers.{BarNumbers}
use Rattle.price_rows.specs.declared.tick_row.TickNumbers.{TickNumbers}

-- a price in units of 10^-8
pub record IsPriceNumber (units : ℕ) : Type 0 where
  pub above : 0 < units
  pub most : units ≤ greatest_price

pub record AreBarNumbers (b : BarNumbers) : Type 0 where
  pub opening : IsPriceNumber b.opening
  pub high : IsPriceNumber b.high
  pub low : IsPriceNumber b.low
  pub closing : IsPriceNumber b.closing
  pub spread : b.spread ≤ 1000000

abbrev pub IsAnyPrice : Option ℕ → Type 0
IsAnyPrice o = IfSome o IsPriceNumber

abbrev pub IsAnyLast : Option ℕ → Type 0
IsAnyLast o = IfSome o (λ units. units ≤ greatest_price)

abbrev pub IsAnyVolume : Option ℕ → Type 0
IsAnyVolume o = IfSome o (λ units. units ≤ 2 ^ 63 - 1)

pub record AreTickNumbers (m : TickNumbers) : Type 0 where
  pub bid : IsAnyPrice m.bid
  pub ask : IsAnyPrice m.ask
  pub last : IsAnyLast m.last
  pub volume : IsAnyVolume m.volume
