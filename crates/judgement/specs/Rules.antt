-- The rules of requests, each a test (MQL5 Reference, Trade Server Return Codes, OrderSend; MetaTrader 5
-- Help, Types of Orders, Stops Level). Prices and volumes are units of 10^-8.
use Rattle.std.specs.Prelude.{◌-◌, ◌*◌, ◌^◌, Bool, true, false, ◌&&◌, ◌||◌, if◌then◌else◌, ℤ, pos, ◌+ℤ◌, ◌-ℤ◌, int_lt, int_le, int_rem}
use Rattle.std.specs.Ordering.{int_eq}
use Rattle.std.specs.Int.{int_rem_euclid, int_div_euclid}
use Rattle.fx8.specs.Doubles.{unit_of_place}
use Rattle.market_types.specs.declared.symbol_spec.SymbolSpec.{SymbolSpec}
use Rattle.account.specs.declared.order.OrderKind.{OrderKind}
use Rattle.account.specs.declared.order.OrderKind.TheVariants as kind
use Rattle.account.specs.declared.order.OrderTime.{OrderTime}
use Rattle.account.specs.declared.order.OrderTime.TheVariants as time

-- a multiple of what is above 0
unfoldable pub is_multiple : ℤ → ℤ → Bool
is_multiple n step = int_eq (int_rem n step) (pos 0)

-- the volume lies from the least to the greatest of the symbol, and is a multiple of the step
unfoldable pub is_volume : SymbolSpec → ℤ → Bool
is_volume s volume =
    int_le s.volume_min volume && int_le volume s.volume_max && is_multiple volume s.volume_step

-- a point, the last decimal that the symbol's prices show
abbrev pub point_of : SymbolSpec → ℤ
point_of s = pos (unit_of_place s.digits)

-- how far prices of orders and stops stay from their reference
abbrev pub distance_of : SymbolSpec → ℤ
distance_of s = pos (s.stops_level * unit_of_place s.digits)

-- one price lies strictly below another, and at least the distance away
unfoldable pub keeps_below : SymbolSpec → ℤ → ℤ → Bool
keeps_below s low high = int_lt low high && int_le (low +ℤ distance_of s) high

-- a stop below a reference, or above: none, or a multiple of the point that keeps the distance
unfoldable pub is_stop_below : SymbolSpec → ℤ → ℤ → Bool
is_stop_below s stop reference =
    int_eq stop (pos 0) || is_multiple stop (point_of s) && keeps_below s stop reference

unfoldable pub is_stop_above : SymbolSpec → ℤ → ℤ → Bool
is_stop_above s stop reference =
    int_eq stop (pos 0) || is_multiple stop (point_of s) && keeps_below s reference stop

-- the stops about a reference: for a buy the stop loss is below it and the take profit above, for a sell the
-- reverse
unfoldable pub are_stops : SymbolSpec → Bool → ℤ → ℤ → ℤ → Bool
are_stops s buy sl tp reference =
    if buy then is_stop_below s sl reference && is_stop_above s tp reference
    else is_stop_above s sl reference && is_stop_below s tp reference

-- an order of the kind buys
abbrev pub kind_buys : OrderKind → Bool
kind_buys kind.BuyLimit = true
kind_buys kind.SellLimit = false
kind_buys kind.BuyStop = true
kind_buys kind.SellStop = false
kind_buys kind.BuyStopLimit = true
kind_buys kind.SellStopLimit = false

-- the price of an order keeps its side of Bid and Ask: a buy limit below Ask, a buy stop and a buy stop-limit
-- above Ask, a sell limit above Bid, a sell stop and a sell stop-limit below Bid
abbrev pub keeps_side : SymbolSpec → OrderKind → ℤ × ℤ → ℤ → Bool
keeps_side s kind.BuyLimit prices price = keeps_below s price prices.1
keeps_side s kind.SellLimit prices price = keeps_below s prices.0 price
keeps_side s kind.BuyStop prices price = keeps_below s prices.1 price
keeps_side s kind.SellStop prices price = keeps_below s price prices.0
keeps_side s kind.BuyStopLimit prices price = keeps_below s prices.1 price
keeps_side s kind.SellStopLimit prices price = keeps_below s price prices.0

-- the stop-limit price of a buy is above 0 and below the price, that of a sell above the price; both are
-- multiples of the point. Other kinds have none to judge
abbrev pub keeps_limit : SymbolSpec → OrderKind → ℤ → ℤ → Bool
keeps_limit s kind.BuyLimit price limit = true
keeps_limit s kind.SellLimit price limit = true
keeps_limit s kind.BuyStop price limit = true
keeps_limit s kind.SellStop price limit = true
keeps_limit s kind.BuyStopLimit price limit =
    is_multiple limit (point_of s) && int_lt (pos 0) limit && int_lt limit price
keeps_limit s kind.SellStopLimit price limit = is_multiple limit (point_of s) && int_lt price limit

-- the price of an order: a multiple of the point on its side, with its stop-limit price
unfoldable pub is_order_price : SymbolSpec → OrderKind → ℤ × ℤ → ℤ → ℤ → Bool
is_order_price s kind prices price limit =
    is_multiple price (point_of s) && keeps_side s kind prices price && keeps_limit s kind price limit

-- what the stops of an order lie about: its price, or where it is a stop-limit order its stop-limit price
abbrev pub stops_reference : OrderKind → ℤ → ℤ → ℤ
stops_reference kind.BuyLimit price limit = price
stops_reference kind.SellLimit price limit = price
stops_reference kind.BuyStop price limit = price
stops_reference kind.SellStop price limit = price
stops_reference kind.BuyStopLimit price limit = limit
stops_reference kind.SellStopLimit price limit = limit

-- the second of a time in milliseconds
unfoldable pub second_of : ℤ → ℤ
second_of time_ms = int_div_euclid time_ms (pos 1000)

-- the midnight at which the day of a second begins
unfoldable pub day_begin : ℤ → ℤ
day_begin second = second -ℤ int_rem_euclid second (pos 86400)

-- the last second that there is
abbrev pub last_second : ℤ
last_second = pos (2 ^ 63 - 1)

abbrev pub not_past : ℤ → ℤ
not_past second = if int_le second last_second then second else last_second

-- the next midnight after the day of a second; one past the last second is that second
unfoldable pub day_end : ℤ → ℤ
day_end second = not_past (day_begin second +ℤ pos 86400)

-- an order may expire so: at a second after now, or at the end of a day that is not before today
abbrev pub may_expire : ℤ → ℤ → OrderTime → Bool
may_expire now expiration time.Gtc = true
may_expire now expiration time.Day = true
may_expire now expiration time.Specified = int_lt now expiration
may_expire now expiration time.SpecifiedDay = int_le (day_begin now) (day_begin expiration)

-- the second at which an order expires that is placed or changed now
abbrev pub expiry : ℤ → ℤ → OrderTime → ℤ
expiry now expiration time.Gtc = expiration
expiry now expiration time.Day = day_end now
expiry now expiration time.Specified = expiration
expiry now expiration time.SpecifiedDay = day_end expiration
