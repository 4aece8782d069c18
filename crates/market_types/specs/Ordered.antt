-- What the rows of a price file keep: their ranges, and the order of their times (MetaTrader 5 Help, export
-- of history).
use Rattle.std.specs.Prelude.{◌≡◌, ℕ, Bool, true, ◌&&◌, ◌%◌, ◌^◌, ◌≤◌, List, [], ◌∷◌, length, All, ℤ, pos, ◌≤ℤ◌, ◌<ℤ◌, int_lt, int_le, unsigned_abs}
use Rattle.market_types.specs.declared.bar.Bar.{Bar}
use Rattle.market_types.specs.declared.tick.Tick.{Tick}

-- the greatest price, 10,000,000, in units of 10^-8
abbrev pub greatest_price : ℕ
greatest_price = 10 ^ 15

-- a price above 0 and at most the greatest
pub record IsPrice (units : ℤ) : Type 0 where
  pub above : pos 0 <ℤ units
  pub most : units ≤ℤ pos greatest_price

-- the beginning of a minute from 1970.01.01 00:00 to 2999.12.31 23:59, in seconds since the first
pub record IsMinute (seconds : ℤ) : Type 0 where
  pub from : pos 0 ≤ℤ seconds
  pub to : seconds ≤ℤ pos 32503679940
  pub minute : unsigned_abs seconds % 60 ≡ 0

-- the ranges that a bar of a file keeps
pub record IsBar (bar : Bar) : Type 0 where
  pub time : IsMinute bar.time
  pub opening : IsPrice bar.o
  pub high : IsPrice bar.h
  pub low : IsPrice bar.l
  pub closing : IsPrice bar.c
  pub spread : bar.spread ≤ 1000000

-- the times of bars rise strictly
abbrev pub is_rising : List Bar → Bool
is_rising [] = true
is_rising (bar ∷ []) = true
is_rising (bar ∷ next ∷ more) = int_lt bar.time next.time && is_rising (next ∷ more)

-- the bars of a file: at most 4,000,000, whose times rise
pub record AreBars (bars : List Bar) : Type 0 where
  pub ranges : All IsBar bars
  pub rising : is_rising bars ≡ true
  pub few : length bars ≤ 4000000

-- a last price, which may be 0 where it is not known
pub record IsLastPrice (units : ℤ) : Type 0 where
  pub from : pos 0 ≤ℤ units
  pub most : units ≤ℤ pos greatest_price

-- a moment of the years 1970 to 2999, in milliseconds since 1970.01.01 00:00
pub record IsMoment (time_ms : ℤ) : Type 0 where
  pub from : pos 0 ≤ℤ time_ms
  pub to : time_ms ≤ℤ pos 32503679999999

-- the ranges that a tick of a file keeps
pub record IsTick (tick : Tick) : Type 0 where
  pub time : IsMoment tick.time_ms
  pub bid : IsPrice tick.bid
  pub ask : IsPrice tick.ask
  pub last : IsLastPrice tick.last
  pub volume : pos 0 ≤ℤ tick.volume

-- the times of ticks do not fall
abbrev pub is_timed : List Tick → Bool
is_timed [] = true
is_timed (tick ∷ []) = true
is_timed (tick ∷ next ∷ more) = int_le tick.time_ms next.time_ms && is_timed (next ∷ more)

-- the ticks of a file: at most 4,000,000, whose times do not fall
pub record AreTicks (ticks : List Tick) : Type 0 where
  pub ranges : All IsTick ticks
  pub timed : is_timed ticks ≡ true
  pub few : length ticks ≤ 4000000
