-- What is to be done for a request that is not refused (MQL5 Reference, OrderSend, Trade Request Structure).
use Rattle.std.specs.Prelude.{ℕ, not, ◌==◌, List, Option, Some, None, ℤ, pos}
use Rattle.account.specs.declared.account_spec.AccountSpec.{AccountSpec}
use Rattle.account.specs.declared.deal.DealReason.TheVariants as reason
use Rattle.account.specs.declared.order.Order.{Order}
use Rattle.account.specs.declared.order.OrderKind.{OrderKind}
use Rattle.account.specs.declared.order.OrderTime.{OrderTime}
use Rattle.account.specs.declared.position.Position.{Position}
use Rattle.account.specs.StopOut.{PriceList, prices_at, closing_price}
use Rattle.positions.specs.declared.fill.Fill.{Fill}
use Rattle.judgement.specs.declared.act.Act.{Act}
use Rattle.judgement.specs.declared.act.Act.TheVariants as act
use Rattle.judgement.specs.declared.act.Next.{Next}
use Rattle.judgement.specs.declared.request.Request.{Request}
use Rattle.judgement.specs.declared.words.Action.{Action}
use Rattle.judgement.specs.declared.words.Action.TheVariants as action
use Rattle.judgement.specs.Judge.{place_of, order_of, stops_target}
use Rattle.judgement.specs.Numbers.{action_of, pending_kind_of, time_of}
use Rattle.judgement.specs.Rules.{second_of}
use Rattle.judgement.specs.Tables.{expires_of}

-- a deal on the symbol at a place, as a fill: at Ask for a buy, at Bid for a sell
abbrev pub fill_of : ℕ → ℕ → ℤ → ℕ → ℤ × ℤ → Request → Fill
fill_of order deal time_ms place prices r = record {
  order = order;
  position = r.position;
  deal = deal;
  time_ms = time_ms;
  symbol = place;
  buy = r.kind == 0;
  volume = r.volume;
  price = closing_price (not (r.kind == 0)) prices;
  sl = r.sl;
  tp = r.tp;
  magic = r.magic;
  reason = reason.Expert;
  comment = r.comment;
}

-- the order that is placed on the symbol at a place
abbrev pub placed_order : ℕ → ℤ → ℕ → OrderKind → OrderTime → Request → Order
placed_order ticket time_ms place kind time r = record {
  ticket = ticket;
  symbol = place;
  kind = kind;
  volume = r.volume;
  price = r.price;
  stoplimit = r.stoplimit;
  sl = r.sl;
  tp = r.tp;
  time_ms = time_ms;
  expires = expires_of (second_of time_ms) r;
  type_time = time;
  magic = r.magic;
  comment = r.comment;
}

-- the order with price, stop-limit price, stops, kind of time and expiry of the request
abbrev pub changed_order : ℤ → OrderTime → Request → Order → Order
changed_order time_ms time r o = record o {
  price = r.price;
  stoplimit = r.stoplimit;
  sl = r.sl;
  tp = r.tp;
  expires = expires_of (second_of time_ms) r;
  type_time = time;
}

-- what is to be done under each action, over the place, the prices, the order and the position that it looks
-- up. Where its rules hold, nothing is missing
abbrev pub deal_act : ℕ → ℕ → ℤ → ℕ → Option (ℤ × ℤ) → Request → Option Act
deal_act order deal time_ms place None r = None
deal_act order deal time_ms place (Some prices) r =
    Some (act.Deal (fill_of order deal time_ms place prices r))

abbrev pub pending_act : ℕ → ℤ → ℕ → Option OrderKind → Option OrderTime → Request → Option Act
pending_act ticket time_ms place None time r = None
pending_act ticket time_ms place (Some kind) None r = None
pending_act ticket time_ms place (Some kind) (Some time) r =
    Some (act.Place (placed_order ticket time_ms place kind time r))

abbrev pub modify_act : ℤ → Option OrderTime → Option Order → Request → Option Act
modify_act time_ms None order r = None
modify_act time_ms (Some time) None r = None
modify_act time_ms (Some time) (Some o) r = Some (act.Change (changed_order time_ms time r o))

abbrev pub sltp_act : Option Position → Request → Option Act
sltp_act None r = None
sltp_act (Some p) r = Some (act.SetStops p.ticket r.sl r.tp)

-- a close-by takes one order ticket for both deals
abbrev pub close_by_act : ℕ → ℕ → ℤ → Request → Act
close_by_act order deal time_ms r =
    act.CloseBy r.position r.position_by (fill_of order deal time_ms 0 (pos 0, pos 0) r)

-- the act of the action of a number, with the next ticket of an order and the next number of a deal
abbrev pub act_by :
    Option Action → AccountSpec → List Order → List Position → PriceList → ℤ → Next → Request → Option Act
act_by None spec orders ps prices time_ms next r = None
act_by (Some action.Deal) spec orders ps prices time_ms next r =
    deal_act next.order next.deal time_ms (place_of spec.specs r.symbol)
    (prices_at prices (place_of spec.specs r.symbol)) r
act_by (Some action.Pending) spec orders ps prices time_ms next r =
    pending_act next.order time_ms (place_of spec.specs r.symbol) (pending_kind_of r.kind)
    (time_of r.type_time) r
act_by (Some action.Sltp) spec orders ps prices time_ms next r =
    sltp_act (stops_target spec.hedging ps (place_of spec.specs r.symbol) r) r
act_by (Some action.Modify) spec orders ps prices time_ms next r =
    modify_act time_ms (time_of r.type_time) (order_of orders r) r
act_by (Some action.Remove) spec orders ps prices time_ms next r = Some (act.Remove r.order)
act_by (Some action.CloseBy) spec orders ps prices time_ms next r =
    Some (close_by_act next.order next.deal time_ms r)

abbrev pub act_of :
    AccountSpec → List Order → List Position → PriceList → ℤ → Next → Request → Option Act
act_of spec orders ps prices time_ms next r = act_by (action_of r.action) spec orders ps prices time_ms next r
