-- The words of modes and periods, and how long a period's bar is (MQL5 Reference, ENUM_TIMEFRAMES).
use Rattle.std.specs.Prelude.{ℕ, List, codes}
use Rattle.market_types.specs.declared.mode.Mode.{Mode}
use Rattle.market_types.specs.declared.mode.Mode.TheVariants as mode
use Rattle.market_types.specs.declared.period.Period.{Period}
use Rattle.market_types.specs.declared.period.Period.TheVariants as period

-- a mode in settings and reports
abbrev pub mode_name : Mode → List ℕ
mode_name mode.Ticks = codes "ticks"
mode_name mode.Ohlc = codes "ohlc"
mode_name mode.Opening = codes "open"

-- a period in settings and reports
abbrev pub period_name : Period → List ℕ
period_name period.M1 = codes "M1"
period_name period.M5 = codes "M5"
period_name period.M15 = codes "M15"
period_name period.M30 = codes "M30"
period_name period.H1 = codes "H1"
period_name period.H4 = codes "H4"
period_name period.D1 = codes "D1"

-- how many seconds a bar of the period is long
abbrev pub period_seconds : Period → ℕ
period_seconds period.M1 = 60
period_seconds period.M5 = 300
period_seconds period.M15 = 900
period_seconds period.M30 = 1800
period_seconds period.H1 = 3600
period_seconds period.H4 = 14400
period_seconds period.D1 = 86400
