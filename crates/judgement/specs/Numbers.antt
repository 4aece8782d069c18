-- The numbers of a request and of its answer (MQL5 Reference, ENUM_TRADE_REQUEST_ACTIONS, ENUM_ORDER_TYPE,
-- ENUM_ORDER_TYPE_FILLING, ENUM_ORDER_TYPE_TIME, Trade Server Return Codes).
use Rattle.std.specs.Prelude.{ℕ, Bool, true, false, ◌==◌, if◌then◌else◌, Option, Some, None}
use Rattle.account.specs.declared.order.OrderKind.{OrderKind}
use Rattle.account.specs.declared.order.OrderKind.TheVariants as kind
use Rattle.account.specs.declared.order.OrderTime.{OrderTime}
use Rattle.account.specs.declared.order.OrderTime.TheVariants as time
use Rattle.judgement.specs.declared.return_code.ReturnCode.{ReturnCode}
use Rattle.judgement.specs.declared.return_code.ReturnCode.TheVariants as code
use Rattle.judgement.specs.declared.words.Action.{Action}
use Rattle.judgement.specs.declared.words.Action.TheVariants as action
use Rattle.judgement.specs.declared.words.Filling.{Filling}
use Rattle.judgement.specs.declared.words.Filling.TheVariants as filling

-- the number of a return code
abbrev pub code_number : ReturnCode → ℕ
code_number code.Placed = 10008
code_number code.Done = 10009
code_number code.Invalid = 10013
code_number code.InvalidVolume = 10014
code_number code.InvalidPrice = 10015
code_number code.InvalidStops = 10016
code_number code.NoMoney = 10019
code_number code.PriceOff = 10021
code_number code.InvalidExpiration = 10022
code_number code.NoChanges = 10025
code_number code.InvalidFill = 10030
code_number code.LimitOrders = 10033
code_number code.InvalidOrder = 10035
code_number code.PositionClosed = 10036
code_number code.InvalidCloseVolume = 10038

-- the action of a number
abbrev pub action_of : ℕ → Option Action
action_of n =
    if n == 1 then Some action.Deal
    else if n == 5 then Some action.Pending
    else if n == 6 then Some action.Sltp
    else if n == 7 then Some action.Modify
    else if n == 8 then Some action.Remove
    else if n == 10 then Some action.CloseBy
    else None

-- the way of filling of a number
abbrev pub filling_of : ℕ → Option Filling
filling_of n =
    if n == 0 then Some filling.FillOrKill
    else if n == 1 then Some filling.ImmediateOrCancel
    else if n == 2 then Some filling.Return
    else None

-- an order of type 0 buys at once, one of type 1 sells
abbrev pub side_of : ℕ → Option Bool
side_of n = if n == 0 then Some true else if n == 1 then Some false else None

-- the pending orders are those of the types 2 to 7
abbrev pub pending_kind_of : ℕ → Option OrderKind
pending_kind_of n =
    if n == 2 then Some kind.BuyLimit
    else if n == 3 then Some kind.SellLimit
    else if n == 4 then Some kind.BuyStop
    else if n == 5 then Some kind.SellStop
    else if n == 6 then Some kind.BuyStopLimit
    else if n == 7 then Some kind.SellStopLimit
    else None

-- the kind of time of a number
abbrev pub time_of : ℕ → Option OrderTime
time_of n =
    if n == 0 then Some time.Gtc
    else if n == 1 then Some time.Day
    else if n == 2 then Some time.Specified
    else if n == 3 then Some time.SpecifiedDay
    else None
