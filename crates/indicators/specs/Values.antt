-- What an indicator tells at the newest of the bars from its bar 0 on, in units of 10^-8 (MQL5 Reference,
-- Technical Indicators: iMA, iATR, iRSI).
use Rattle.std.specs.Prelude.{ℕ, ◌+◌, ◌-◌, ◌*◌, ◌^◌, ◌≤◌, ◌==◌, nat_lt, nat_le, Bool, ◌&&◌, List, length, map, take, if◌then◌else◌, Option, Some, None}
use Rattle.std.specs.Option.{option_map}
use Rattle.fx8.specs.Rounding.{nearest}
use Rattle.market_types.specs.declared.bar.Bar.{Bar}
use Rattle.indicators.specs.declared.kinds.AppliedPrice.{AppliedPrice}
use Rattle.indicators.specs.declared.kinds.AppliedPrice.TheVariants as price
use Rattle.indicators.specs.declared.kinds.Method.{Method}
use Rattle.indicators.specs.declared.kinds.Method.TheVariants as method
use Rattle.indicators.specs.declared.kinds.Way.{Way}
use Rattle.indicators.specs.declared.kinds.Way.TheVariants as way
use Rattle.indicators.specs.declared.kinds.Kind.{Kind}
use Rattle.indicators.specs.declared.kinds.Kind.TheVariants as kind
use Rattle.indicators.specs.declared.kinds.Indicator.{Indicator}
use Rattle.indicators.specs.declared.indicator_spec.IndicatorSpec.{IndicatorSpec}
use Rattle.indicators.specs.Prices.{applied_price, ranges, each_but_first, change}
use Rattle.indicators.specs.Averages.{simple, smoothed, average}

-- 100 times the rises over rises and falls; 50 where there are neither
abbrev pub strength : ℕ → ℕ → ℕ
strength rises falls =
    if rises + falls == 0 then 50 * 10 ^ 8 else nearest (100 * 10 ^ 8 * rises) (rises + falls)

-- the smoothed mean of the changes of prices one way
abbrev pub smoothed_changes : Way → ℕ → List ℕ → ℕ
smoothed_changes way n prices = smoothed n (each_but_first (change way) prices)

-- the relative strength of prices, by smoothed means of their rises and falls, from the price after n changes
unfoldable pub relative_strength : ℕ → List ℕ → ℕ
relative_strength n prices =
    if nat_lt n (length prices)
    then strength (smoothed_changes way.Up n prices) (smoothed_changes way.Down n prices) else 0

-- the value at the newest bar
abbrev pub value_of : Kind → ℕ → List Bar → ℕ
value_of (kind.MovingAverage m p) n bars = average m n (map (applied_price p) bars)
value_of kind.AverageTrueRange n bars = simple n (ranges bars)
value_of (kind.RelativeStrength p) n bars = relative_strength n (map (applied_price p) bars)

-- what is told at the newest bar: the value of so many bars before
unfoldable pub told : Indicator → List Bar → ℕ
told indicator bars = value_of indicator.kind indicator.length (take (length bars - indicator.shift) bars)

-- the kinds, methods and prices by their numbers (MQL5 Reference, ENUM_MA_METHOD, ENUM_APPLIED_PRICE; those
-- of the kinds are own)
abbrev pub method_of : ℕ → Option Method
method_of n =
    if n == 0 then Some method.Simple else (if n == 1 then Some method.Exponential else
    (if n == 2 then Some method.Smoothed else (if n == 3 then Some method.LinearWeighted else None)))

abbrev pub price_of : ℕ → Option AppliedPrice
price_of n =
    if n == 1 then Some price.Close else (if n == 2 then Some price.Open else
    (if n == 3 then Some price.High else (if n == 4 then Some price.Low else
    (if n == 5 then Some price.Median else (if n == 6 then Some price.Typical else
    (if n == 7 then Some price.Weighted else None))))))

abbrev pub moving_average : Option Method → Option AppliedPrice → Option Kind
moving_average (Some m) (Some p) = Some (kind.MovingAverage m p)
moving_average (Some m) None = None
moving_average None p = None

-- a method or a price is read only where the indicator has one
abbrev pub kind_of : IndicatorSpec → Option Kind
kind_of s =
    if s.kind == 0 then moving_average (method_of s.method) (price_of s.price) else
    (if s.kind == 1 then Some kind.AverageTrueRange else
    (if s.kind == 2 then option_map kind.RelativeStrength (price_of s.price) else None))

-- a length from 1 to 10,000 and a shift from 0 to 1,000
abbrev pub is_in_range : IndicatorSpec → Bool
is_in_range s = nat_le 1 s.length && (nat_le s.length 10000 && nat_le s.shift 1000)

-- an indicator whose length is in range
pub record IsIndicator (indicator : Indicator) : Type 0 where
  pub from : 1 ≤ indicator.length
  pub to : indicator.length ≤ 10000
  pub shift : indicator.shift ≤ 1000

-- the indicator that is meant, where each number that is read is one that there is
abbrev pub with_kind : IndicatorSpec → Option Kind → Option Indicator
with_kind s None = None
with_kind s (Some kind) = Some (record { kind = kind; length = s.length; shift = s.shift })

unfoldable pub indicator_of : IndicatorSpec → Option Indicator
indicator_of s = if is_in_range s then with_kind s (kind_of s) else None
