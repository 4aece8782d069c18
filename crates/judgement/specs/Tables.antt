-- The rules of each action in their order, each with the code that is told where it fails (MQL5 Reference,
-- OrderSend, Trade Request Structure, Trade Server Return Codes; the order is our own). What a rule looks up
-- is an argument: the symbol of the request, of the order or of the position, the last loud Bid and Ask of it,
-- the order that is named, and the position. A rule on what is missing does not hold.
use Rattle.std.specs.Prelude.{ℕ, Bool, true, false, not, ◌&&◌, ◌||◌, ◌==◌, nat_lt, if◌then◌else◌, List, [], ◌∷◌, Option, Some, None, is_some, ℤ, int_le}
use Rattle.std.specs.Ordering.{int_eq}
use Rattle.market_types.specs.declared.symbol_spec.SymbolSpec.{SymbolSpec}
use Rattle.account.specs.declared.order.Order.{Order}
use Rattle.account.specs.declared.order.OrderKind.{OrderKind}
use Rattle.account.specs.declared.order.OrderTime.{OrderTime}
use Rattle.account.specs.declared.position.Position.{Position}
use Rattle.account.specs.Positions.{same_side}
use Rattle.account.specs.StopOut.{closing_price}
use Rattle.order_book.specs.Book.{most_orders, time_number}
use Rattle.positions.specs.CloseBy.{are_opposite}
use Rattle.judgement.specs.declared.request.Request.{Request}
use Rattle.judgement.specs.declared.return_code.ReturnCode.{ReturnCode}
use Rattle.judgement.specs.declared.return_code.ReturnCode.TheVariants as code
use Rattle.judgement.specs.Numbers.{side_of, pending_kind_of, filling_of, time_of}
use Rattle.judgement.specs.Rules.{is_volume, are_stops, kind_buys, is_order_price, stops_reference, may_expire, expiry}

-- the code of the first rule that fails
abbrev pub first_failing : List (Bool × ReturnCode) → Option ReturnCode
first_failing [] = None
first_failing (rule ∷ rules) = if rule.0 then first_failing rules else Some rule.1

-- the volume is one of the symbol's
unfoldable pub has_volume : Option SymbolSpec → ℤ → Bool
has_volume None volume = false
has_volume (Some s) volume = is_volume s volume

-- price and stop-limit price are ones that an order of the kind may wait for at Bid and Ask
unfoldable pub has_price : Option SymbolSpec → Option (ℤ × ℤ) → Option OrderKind → Request → Bool
has_price (Some s) (Some prices) (Some kind) r = is_order_price s kind prices r.price r.stoplimit
has_price (Some s) (Some prices) None r = false
has_price (Some s) None kind r = false
has_price None prices kind r = false

-- the stops lie about the price of an order of the kind, or about its stop-limit price
unfoldable pub has_order_stops : Option SymbolSpec → Option OrderKind → Request → Bool
has_order_stops (Some s) (Some kind) r =
    are_stops s (kind_buys kind) r.sl r.tp (stops_reference kind r.price r.stoplimit)
has_order_stops (Some s) None r = false
has_order_stops None kind r = false

-- the stops of a buy lie about Bid, those of a sell about Ask
unfoldable pub has_stops : Option SymbolSpec → Option (ℤ × ℤ) → Bool → Request → Bool
has_stops (Some s) (Some prices) buy r = are_stops s buy r.sl r.tp (closing_price buy prices)
has_stops (Some s) None buy r = false
has_stops None prices buy r = false

-- the order may expire as the request says
abbrev pub may_expire_so : ℤ → ℤ → Option OrderTime → Bool
may_expire_so now expiration None = false
may_expire_so now expiration (Some t) = may_expire now expiration t

unfoldable pub has_time : ℤ → Request → Bool
has_time now r = may_expire_so now r.expiration (time_of r.type_time)

-- the second at which the order would expire
abbrev pub expiry_so : ℤ → ℤ → Option OrderTime → ℤ
expiry_so now expiration None = expiration
expiry_so now expiration (Some t) = expiry now expiration t

unfoldable pub expires_of : ℤ → Request → ℤ
expires_of now r = expiry_so now r.expiration (time_of r.type_time)

-- price, stop-limit price, stops, kind of time and expiry of an order are those of the request
unfoldable pub has_terms : ℤ → Request → Order → Bool
has_terms now r o =
    int_eq o.price r.price
    && int_eq o.stoplimit r.stoplimit
    && int_eq o.sl r.sl
    && int_eq o.tp r.tp
    && time_number o.type_time == r.type_time
    && int_eq o.expires (expires_of now r)

-- one of these six would change
unfoldable pub changes_order : ℤ → Request → Option Order → Bool
changes_order now r None = false
changes_order now r (Some o) = not (has_terms now r o)

-- a stop of the position would change
unfoldable pub changes_stops : Request → Option Position → Bool
changes_stops r None = false
changes_stops r (Some p) = not (int_eq p.sl r.sl && int_eq p.tp r.tp)

-- the stops lie about Bid or Ask by the side of the position
unfoldable pub has_position_stops : Option SymbolSpec → Option (ℤ × ℤ) → Option Position → Request → Bool
has_position_stops symbol prices None r = false
has_position_stops symbol prices (Some p) r = has_stops symbol prices p.buy r

-- the position that is named, where one is, is open on the symbol
unfoldable pub names_open : ℕ → Option Position → Request → Bool
names_open place None r = r.position == 0
names_open place (Some p) r = r.position == 0 || p.symbol == place

-- under hedging the position that is named, where one is, is on the other side
unfoldable pub names_other_side : Bool → Option Position → Request → Bool
names_other_side hedging None r = true
names_other_side hedging (Some p) r =
    not hedging || r.position == 0 || not (same_side p.buy (r.kind == 0))

-- and has at least the volume
unfoldable pub names_enough : Bool → Option Position → Request → Bool
names_enough hedging None r = true
names_enough hedging (Some p) r = not hedging || r.position == 0 || int_le r.volume p.volume

-- two positions are of one symbol, one a buy and the other a sell
unfoldable pub oppose : Option Position → Option Position → Bool
oppose (Some p) (Some q) = are_opposite p q
oppose (Some p) None = false
oppose None q = false

-- the rules of a deal on the symbol at a place, behind which stands that of money. Price and deviation are
-- not read
abbrev pub deal_rules :
    Bool → ℕ → Option SymbolSpec → Option (ℤ × ℤ) → Option Position → Bool → Request →
    List (Bool × ReturnCode)
deal_rules hedging place symbol prices named money r =
    (is_some symbol, code.Invalid)
    ∷ (is_some (side_of r.kind), code.InvalidOrder)
    ∷ (is_some (filling_of r.filling), code.InvalidFill)
    ∷ (has_volume symbol r.volume, code.InvalidVolume)
    ∷ (is_some prices, code.PriceOff)
    ∷ (names_open place named r, code.PositionClosed)
    ∷ (names_other_side hedging named r, code.Invalid)
    ∷ (names_enough hedging named r, code.InvalidCloseVolume)
    ∷ (has_stops symbol prices (r.kind == 0) r, code.InvalidStops)
    ∷ (money, code.NoMoney)
    ∷ []

-- the rules of a pending order, of which so many stand
abbrev pub pending_rules :
    Option SymbolSpec → Option (ℤ × ℤ) → ℕ → ℤ → Request → List (Bool × ReturnCode)
pending_rules symbol prices standing now r =
    (is_some symbol, code.Invalid)
    ∷ (is_some (pending_kind_of r.kind), code.InvalidOrder)
    ∷ (is_some (filling_of r.filling), code.InvalidFill)
    ∷ (has_volume symbol r.volume, code.InvalidVolume)
    ∷ (is_some prices, code.PriceOff)
    ∷ (has_price symbol prices (pending_kind_of r.kind) r, code.InvalidPrice)
    ∷ (has_order_stops symbol (pending_kind_of r.kind) r, code.InvalidStops)
    ∷ (has_time now r, code.InvalidExpiration)
    ∷ (nat_lt standing most_orders, code.LimitOrders)
    ∷ []

abbrev pub kind_of : Option Order → Option OrderKind
kind_of None = None
kind_of (Some o) = Some o.kind

-- the rules of a change of an order
abbrev pub modify_rules :
    Option Order → Option SymbolSpec → Option (ℤ × ℤ) → ℤ → Request → List (Bool × ReturnCode)
modify_rules order symbol prices now r =
    (is_some order, code.InvalidOrder)
    ∷ (changes_order now r order, code.NoChanges)
    ∷ (has_price symbol prices (kind_of order) r, code.InvalidPrice)
    ∷ (has_order_stops symbol (kind_of order) r, code.InvalidStops)
    ∷ (has_time now r, code.InvalidExpiration)
    ∷ []

-- the rule of a removal
abbrev pub remove_rules : Option Order → List (Bool × ReturnCode)
remove_rules order = (is_some order, code.InvalidOrder) ∷ []

-- the rules of a change of stops
abbrev pub sltp_rules :
    Option Position → Option SymbolSpec → Option (ℤ × ℤ) → Request → List (Bool × ReturnCode)
sltp_rules position symbol prices r =
    (is_some position, code.PositionClosed)
    ∷ (changes_stops r position, code.NoChanges)
    ∷ (has_position_stops symbol prices position r, code.InvalidStops)
    ∷ []

-- the rules of a close-by of two positions
abbrev pub close_by_rules : Bool → Option Position → Option Position → List (Bool × ReturnCode)
close_by_rules hedging one other =
    (hedging, code.Invalid)
    ∷ (is_some one, code.PositionClosed)
    ∷ (is_some other, code.PositionClosed)
    ∷ (oppose one other, code.Invalid)
    ∷ []
