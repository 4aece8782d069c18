-- Why a request is refused: the code of the first rule of its action that fails (MQL5 Reference, OrderSend,
-- Trade Request Structure).
use Rattle.std.specs.Prelude.{ℕ, Bool, true, false, ◌==◌, if◌then◌else◌, List, length, slice_get, Option, Some, None, ℤ}
use Rattle.std.specs.List.{find, position_or_len}
use Rattle.std.specs.Cmp.Lexicographic.{pointwise}
use Rattle.market_types.specs.declared.symbol_spec.SymbolSpec.{SymbolSpec}
use Rattle.account.specs.declared.account_spec.AccountSpec.{AccountSpec}
use Rattle.account.specs.declared.order.Order.{Order}
use Rattle.account.specs.declared.position.Position.{Position}
use Rattle.account.specs.Keyed.{item}
use Rattle.account.specs.Orders.{order_ticket}
use Rattle.account.specs.Positions.{position_ticket}
use Rattle.account.specs.StopOut.{PriceList, prices_at}
use Rattle.judgement.specs.declared.request.Request.{Request}
use Rattle.judgement.specs.declared.return_code.ReturnCode.{ReturnCode}
use Rattle.judgement.specs.declared.return_code.ReturnCode.TheVariants as code
use Rattle.judgement.specs.declared.words.Action.{Action}
use Rattle.judgement.specs.declared.words.Action.TheVariants as action
use Rattle.judgement.specs.Numbers.{action_of}
use Rattle.judgement.specs.Rules.{second_of}
use Rattle.judgement.specs.Tables.{first_failing, deal_rules, pending_rules, modify_rules, remove_rules, sltp_rules, close_by_rules}

-- the place of the symbol of a name; one past the last where there is none
unfoldable pub place_of : List SymbolSpec → List ℕ → ℕ
place_of specs name = position_or_len (λ (s : SymbolSpec). pointwise (λ a b. a == b) s.name name) specs

-- the order that a request names
abbrev pub order_of : List Order → Request → Option Order
order_of orders r = item order_ticket r.order orders

-- the symbol of an order or a position, where it stands, and the last loud Bid and Ask of it
abbrev pub symbol_of : List SymbolSpec → Option ℕ → Option SymbolSpec
symbol_of specs None = None
symbol_of specs (Some place) = slice_get specs place

abbrev pub prices_of : PriceList → Option ℕ → Option (ℤ × ℤ)
prices_of prices None = None
prices_of prices (Some place) = prices_at prices place

abbrev pub place_of_order : Option Order → Option ℕ
place_of_order None = None
place_of_order (Some o) = Some o.symbol

abbrev pub place_of_position : Option Position → Option ℕ
place_of_position None = None
place_of_position (Some p) = Some p.symbol

-- the position that is open on a symbol under netting
abbrev pub netted : Bool → List Position → ℕ → Option Position
netted true ps place = None
netted false ps place = find (λ p. p.symbol == place) ps

-- the position whose stops are to change: that of the ticket, or under netting without ticket that of the
-- symbol
abbrev pub stops_target : Bool → List Position → ℕ → Request → Option Position
stops_target hedging ps place r =
    if r.position == 0 then netted hedging ps place else item position_ticket r.position ps

-- the code of the first rule that fails, under each action: of the place of the symbol of its name for a deal
-- and a pending order, of that of the order or position that it names for a change
abbrev pub pending_refusal : List SymbolSpec → List Order → PriceList → ℤ → Request → Option ReturnCode
pending_refusal specs orders prices time_ms r = first_failing
    (pending_rules (slice_get specs (place_of specs r.symbol)) (prices_at prices (place_of specs r.symbol))
    (length orders) (second_of time_ms) r)

abbrev pub modify_refusal : List SymbolSpec → Option Order → PriceList → ℤ → Request → Option ReturnCode
modify_refusal specs order prices time_ms r = first_failing
    (modify_rules order (symbol_of specs (place_of_order order)) (prices_of prices (place_of_order order))
    (second_of time_ms) r)

abbrev pub sltp_refusal : List SymbolSpec → Option Position → PriceList → Request → Option ReturnCode
sltp_refusal specs position prices r = first_failing
    (sltp_rules position (symbol_of specs (place_of_position position))
    (prices_of prices (place_of_position position)) r)

abbrev pub close_by_refusal : Bool → List Position → Request → Option ReturnCode
close_by_refusal hedging ps r = first_failing
    (close_by_rules hedging (item position_ticket r.position ps) (item position_ticket r.position_by ps))

-- whether there is money for the deal is handed in
abbrev pub deal_refusal : AccountSpec → List Position → PriceList → Bool → Request → Option ReturnCode
deal_refusal spec ps prices money r = first_failing
    (deal_rules spec.hedging (place_of spec.specs r.symbol)
    (slice_get spec.specs (place_of spec.specs r.symbol))
    (prices_at prices (place_of spec.specs r.symbol)) (item position_ticket r.position ps) money r)

-- an unknown action is none
abbrev pub refusal_by :
    Option Action → AccountSpec → List Order → List Position → PriceList → ℤ → Bool → Request →
    Option ReturnCode
refusal_by None spec orders ps prices time_ms money r = Some code.Invalid
refusal_by (Some action.Deal) spec orders ps prices time_ms money r = deal_refusal spec ps prices money r
refusal_by (Some action.Pending) spec orders ps prices time_ms money r =
    pending_refusal spec.specs orders prices time_ms r
refusal_by (Some action.Sltp) spec orders ps prices time_ms money r =
    sltp_refusal spec.specs (stops_target spec.hedging ps (place_of spec.specs r.symbol) r) prices r
refusal_by (Some action.Modify) spec orders ps prices time_ms money r =
    modify_refusal spec.specs (order_of orders r) prices time_ms r
refusal_by (Some action.Remove) spec orders ps prices time_ms money r =
    first_failing (remove_rules (order_of orders r))
refusal_by (Some action.CloseBy) spec orders ps prices time_ms money r =
    close_by_refusal spec.hedging ps r

-- why the request is refused, where it is, over the account, the orders in force, the open positions, the
-- last loud prices and the time in milliseconds
abbrev pub refusal :
    AccountSpec → List Order → List Position → PriceList → ℤ → Bool → Request → Option ReturnCode
refusal spec orders ps prices time_ms money r =
    refusal_by (action_of r.action) spec orders ps prices time_ms money r
