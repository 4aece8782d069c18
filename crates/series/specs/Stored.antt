-- The bars of one symbol and period.
use Rattle.std.specs.Prelude.{ℕ, List}
use Rattle.market_types.specs.declared.bar.Bar.{Bar}

-- the bars, what is traded in the newest, and for how many more bars there is room
pub record Stored : Type 0 where
  pub bars : List Bar
  pub traded : ℕ
  pub spare : ℕ

-- the bars, and what is traded in the newest, in units of 10^-8
pub record History : Type 0 where
  pub bars : List Bar
  pub traded : ℕ

abbrev pub history_of : Stored → History
history_of s = record { bars = s.bars; traded = s.traded }

-- the digits of a symbol and its history in each period
pub record Histories : Type 0 where
  pub digits : ℕ
  pub m1 : History
  pub m5 : History
  pub m15 : History
  pub m30 : History
  pub h1 : History
  pub h4 : History
  pub d1 : History
