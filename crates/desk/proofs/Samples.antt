-- Samples of the definitions, worked out by hand.
use Rattle.std.proofs.Common.{refl, ◌≡◌, true, false, ℕ, ℤ, pos, neg_ℤ, [], ◌∷◌, List, Some, None}
use Rattle.fx8.specs.Rounding.{rounded}
use Rattle.market_types.specs.declared.quote.Quote.{Quote}
use Rattle.market_types.specs.declared.symbol_spec.SymbolSpec.{SymbolSpec}
use Rattle.account.specs.declared.account_spec.AccountSpec.{AccountSpec}
use Rattle.account.specs.declared.deal.Deal.{Deal}
use Rattle.account.specs.declared.deal.DealKind.TheVariants as kind
use Rattle.account.specs.declared.deal.DealEntry.TheVariants as entry
use Rattle.account.specs.declared.deal.DealReason.TheVariants as reason
use Rattle.account.specs.declared.order.OrderKind.{OrderKind}
use Rattle.account.specs.declared.order.OrderKind.TheVariants as order
use Rattle.account.specs.declared.order.OrderTime.TheVariants as time
use Rattle.account.specs.declared.event.Event.{Event}
use Rattle.account.specs.declared.event.Event.TheVariants as event
use Rattle.account.specs.Deals.{balance, net, deals}
use Rattle.account.specs.Firing.{fires, is_over, stop_reason, stops}
use Rattle.account.specs.Journal.{deposit_deal}
use Rattle.account.specs.Money.{profit, margin, commission, weighted_price}
use Rattle.account.specs.Positions.{open_positions}
use Rattle.account.specs.Statistics.{greater}
use Rattle.account.specs.StopOut.{floating, position_margin, is_due}
use Rattle.judgement.specs.Rules.{second_of}
use Rattle.positions.specs.Fills.{given_or}
use Rattle.desk.specs.Effect.{effect, swaps}
use Rattle.positions.specs.Money.{has_money}
use Rattle.desk.specs.Nights.{night_after, nights_between, swap_amount}
use Rattle.desk.specs.State.{Quoted, have_room}

-- from Wednesday 2020.01.01 to the next day three nights count, from Friday to Monday one
triple : nights_between 3 (Some (pos 1577836800000)) (pos 1577923200000) ≡ 3
unfolding night_after
triple = refl

weekend : nights_between 3 (Some (pos 1578009600000)) (pos 1578268800000) ≡ 1
unfolding night_after
weekend = refl

abbrev symbol : SymbolSpec
symbol = record {
  name = 69 ∷ [];
  file = [];
  digits = 5;
  contract = 100000;
  volume_min = pos 1000000;
  volume_max = pos 10000000000;
  volume_step = pos 1000000;
  stops_level = 0;
  spread = None;
  commission = pos 0;
  swap_long = neg_ℤ (pos 500);
  swap_short = pos 0;
  swap_day = 3;
}

abbrev spec : AccountSpec
spec = record { hedging = false; deposit = pos 100000; leverage = 100; stop_out = 50; specs = symbol ∷ [] }

-- 0.5 lots bought at 1.2
abbrev buy : Deal
buy = record {
  ticket = 2;
  order = 1;
  position = 1;
  time_ms = pos 1577836800000;
  symbol = 0;
  kind = kind.Buy;
  entry = entry.In;
  volume = pos 50000000;
  price = pos 120000000;
  profit = pos 0;
  swap = pos 0;
  commission = pos 0;
  magic = 0;
  reason = reason.Expert;
  comment = [];
}

abbrev begun : List Event → ℤ → Quoted
begun events time_ms = record {
  spec = spec;
  events = event.Added (deposit_deal spec) ∷ events;
  prices = Some (pos 120000000, pos 120000000) ∷ [];
  times = Some time_ms ∷ [];
}

abbrev at : ℤ → ℤ → Quote
at time_ms price = record { symbol = 0; time_ms = time_ms; bid = price; ask = price; last = pos 0; volume = pos 0; flags = 6; loud = true }

-- its swap from Wednesday to Thursday is -7.50, from Friday to Monday -2.50
wednesday : swaps (begun (event.Added buy ∷ []) (pos 1577836800000)) (at (pos 1577923200000) (pos 120000000)) ≡ event.Swap 1 (neg_ℤ (pos 750)) ∷ []
unfolding night_after swap_amount rounded
wednesday = refl

friday : swaps (begun (event.Added buy ∷ []) (pos 1578009600000)) (at (pos 1578268800000) (pos 120000000)) ≡ event.Swap 1 (neg_ℤ (pos 250)) ∷ []
unfolding night_after swap_amount rounded
friday = refl

-- at 1.186 the equity is 300.00, half of the margin, and nothing happens; at 1.18599 the position is closed
calm : (effect (begun (event.Added buy ∷ []) (pos 1577836800000)) (at (pos 1577836801000) (pos 118600000))).events ≡ event.Added (deposit_deal spec) ∷ event.Added buy ∷ []
unfolding night_after swap_amount rounded second_of stop_reason stops floating profit position_margin margin is_due net greater have_room fires is_over
calm = refl

stopped_out : balance (effect (begun (event.Added buy ∷ []) (pos 1577836800000)) (at (pos 1577836801000) (pos 118599000))).events ≡ pos 29950
unfolding night_after swap_amount rounded second_of stop_reason stops floating profit position_margin margin is_due net greater have_room fires is_over commission
stopped_out = refl

closed_then : open_positions (effect (begun (event.Added buy ∷ []) (pos 1577836800000)) (at (pos 1577836801000) (pos 118599000))).events ≡ []
unfolding night_after swap_amount rounded second_of stop_reason stops floating profit position_margin margin is_due net greater have_room fires is_over commission
closed_then = refl

abbrev waits : ℕ → OrderKind → ℤ → ℤ → Event
waits ticket kind price stoplimit = event.Placed (record {
  ticket = ticket;
  symbol = 0;
  kind = kind;
  volume = pos 10000000;
  price = price;
  stoplimit = stoplimit;
  sl = pos 0;
  tp = pos 0;
  time_ms = pos 1577836800000;
  expires = pos 0;
  type_time = time.Gtc;
  magic = 0;
  comment = [];
})

-- number, order and price of deals
abbrev told : Deal → ℕ × ℕ × ℤ
told d = (d.ticket, d.order, d.price)

abbrev all_told : List Deal → List (ℕ × ℕ × ℤ)
all_told [] = []
all_told (d ∷ ds) = told d ∷ all_told ds

-- two buy limits that fire are filled in the order of their tickets, at Ask
in_order : all_told (deals (effect (begun (waits 1 order.BuyLimit (pos 110000000) (pos 0) ∷ waits 2 order.BuyLimit (pos 110100000) (pos 0) ∷ []) (pos 1577836800000)) (at (pos 1577836801000) (pos 109900000))).events) ≡ (1, 0, pos 0) ∷ (2, 1, pos 109900000) ∷ (3, 2, pos 109900000) ∷ []
unfolding night_after swap_amount rounded second_of stop_reason stops floating profit position_margin margin is_due net greater have_room fires is_over commission has_money given_or weighted_price
in_order = refl

-- a buy stop-limit at 1.1050 with 1.1040 becomes a limit order at an Ask of 1.1060; at 1.1045 nothing happens,
-- at 1.1040 it is filled
abbrev limit_made : List Event
limit_made = waits 1 order.BuyStopLimit (pos 110500000) (pos 110400000) ∷ event.Triggered 1 ∷ []

triggered : (effect (begun (waits 1 order.BuyStopLimit (pos 110500000) (pos 110400000) ∷ []) (pos 1577836800000)) (at (pos 1577836801000) (pos 110600000))).events ≡ event.Added (deposit_deal spec) ∷ limit_made
unfolding night_after swap_amount rounded second_of stop_reason stops floating profit position_margin margin is_due net greater have_room fires is_over commission
triggered = refl

waiting : (effect (begun limit_made (pos 1577836800000)) (at (pos 1577836801000) (pos 110450000))).events ≡ event.Added (deposit_deal spec) ∷ limit_made
unfolding night_after swap_amount rounded second_of stop_reason stops floating profit position_margin margin is_due net greater have_room fires is_over commission
waiting = refl

filled_at_limit : all_told (deals (effect (begun limit_made (pos 1577836800000)) (at (pos 1577836801000) (pos 110400000))).events) ≡ (1, 0, pos 0) ∷ (2, 1, pos 110400000) ∷ []
unfolding night_after swap_amount rounded second_of stop_reason stops floating profit position_margin margin is_due net greater have_room fires is_over commission has_money
filled_at_limit = refl
