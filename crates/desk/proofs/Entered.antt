-- A journal that gains an event stays sound.
use Rattle.std.proofs.Common.{◌≡◌, ◌∙◌, ℕ, ◌+◌, ◌*◌, ◌^◌, ◌≤◌, ◌++◌, append-nil, true, false, cond, List, [], ◌∷◌, length, take, slice_index_or, Option, Some, None, ℤ, pos, ◌+ℤ◌, unsigned_abs, FitsSigned, refl, ap, arith}
use Rattle.std.specs.Int.{w128}
use Rattle.std.specs.List.{All, cons_option}
use Rattle.std.specs.Option.{option_map}
use Rattle.std.specs.Prelude.{IfSome}
use Rattle.std.proofs.lemmas.Int.{ints, fits_signed_from_abs}
use Rattle.std.proofs.lemmas.List.{length-append}
use Rattle.std.proofs.lemmas.List.Sums.{fold-append}
use Rattle.std.proofs.lemmas.List.Elements.{All-append, All-cons, All-nil}
use Rattle.account.specs.declared.account_spec.AccountSpec.{AccountSpec}
use Rattle.account.specs.declared.deal.Deal.{Deal}
use Rattle.account.specs.declared.order.Order.{Order}
use Rattle.account.specs.declared.position.Position.{Position}
use Rattle.account.specs.declared.event.Event.{Event}
use Rattle.account.specs.declared.event.Event.TheVariants.{Placed, Modified, Removed, Triggered, Added, Stops, Swap}
use Rattle.account.specs.Deals.{deal_of, deals, trading_deals}
use Rattle.account.specs.Journal.{deposit_deal}
use Rattle.account.specs.Keyed.{item}
use Rattle.account.specs.Orders.{order_ticket, changed, triggered, triggered_kind, is_stop_limit, orders_after, orders_in_force}
use Rattle.account.specs.Positions.{position_ticket, with_stops, with_swap, positions_after, open_positions}
use Rattle.account.specs.Ranges.{IsHeld, IsWithin, KeepsTypes, IsEventOf}
use Rattle.account.specs.StopOut.{PriceList}
use Rattle.account.proofs.Found.{all_put, all_item}
use Rattle.account.proofs.Kept.{deals_more, open_more, trading_more, still_first}
use Rattle.desk.specs.Tickets.{greater_number, last_after, last_order, order_of_event}
use Rattle.desk.specs.Sound.{day_at, IsKept, IsStanding, IsSmall, IsSound, IsTidy, MayEnter, AreQuoted}
use Rattle.desk.proofs.Days.{day_small}
use Rattle.account.proofs.Keys.{item_key}
use Rattle.account.proofs.Conserved.{after-deal-key, quiet-key}
use Rattle.desk.proofs.Sums.{within}
use Rattle.desk.proofs.Tidy.{apart_changed, apart_mapped, apart_placed, apart_removed, apart_altered, unique_changed, sole_mapped, triggered_ticket}

-- the greater of two numbers
pub greater_left : (a b : ℕ) → a ≤ greater_number a b
unfolding greater_number
greater_left a b = grind arith

pub greater_none : (a : ℕ) → greater_number a 0 ≡ a
unfolding greater_number
greater_none a = grind arith

-- the last order ticket, the orders, after one more event
pub last_more : (es : List Event) (e : Event) → last_order (es ++ e ∷ []) ≡ greater_number (last_order es) (order_of_event e)
last_more es e = fold-append last_after 0 es (e ∷ [])

pub orders_more : (es : List Event) (e : Event) → orders_in_force (es ++ e ∷ []) ≡ orders_after (orders_in_force es) e
orders_more es e = fold-append orders_after [] es (e ∷ [])

-- what is kept stays so after more orders and deals
kept_on : (spec : AccountSpec) (prices : PriceList) (times : List (Option ℤ)) (last last' n n' : ℕ) (p : Position) → last ≤ last' → n ≤ n' → IsKept spec prices times last n p → IsKept spec prices times last' n' p
kept_on spec prices times last last' n n' p h k i = record {
  symbol = i.symbol;
  priced = i.priced;
  held = i.held;
  volume = omega (arith, ints, i.volume, k);
  swap = i.swap;
  from = i.from;
  ticket = omega (arith, i.ticket, h);
}

all_kept_on : (spec : AccountSpec) (prices : PriceList) (times : List (Option ℤ)) (last last' n n' : ℕ) (ps : List Position) → last ≤ last' → n ≤ n' → All (IsKept spec prices times last n) ps → All (IsKept spec prices times last' n') ps
all_kept_on spec prices times last last' n n' ps h k all = λ i d e. kept_on spec prices times last last' n n' (slice_index_or ps i d) h k (all i d e)

standing_on : (spec : AccountSpec) (prices : PriceList) (last last' : ℕ) (o : Order) → last ≤ last' → IsStanding spec prices last o → IsStanding spec prices last' o
standing_on spec prices last last' o h i = record {
  symbol = i.symbol;
  priced = i.priced;
  some = i.some;
  most = i.most;
  from = i.from;
  ticket = omega (arith, i.ticket, h);
}

all_standing_on : (spec : AccountSpec) (prices : PriceList) (last last' : ℕ) (os : List Order) → last ≤ last' → All (IsStanding spec prices last) os → All (IsStanding spec prices last') os
all_standing_on spec prices last last' os h all = λ i d e. standing_on spec prices last last' (slice_index_or os i d) h (all i d e)

pub all_held : (spec : AccountSpec) (prices : PriceList) (times : List (Option ℤ)) (last n : ℕ) (ps : List Position) → All (IsKept spec prices times last n) ps → All IsHeld ps
all_held spec prices times last n ps all = λ i d e. (all i d e).held

-- an order that is changed or triggered stands as before
changed_standing : (spec : AccountSpec) (prices : PriceList) (last : ℕ) (new : Order) (o : Option Order) → IfSome o (IsStanding spec prices last) → IfSome (option_map (changed new) o) (IsStanding spec prices last)
changed_standing spec prices last new None h = tt
changed_standing spec prices last new (Some o) h = record { symbol = h.symbol; priced = h.priced; some = h.some; most = h.most; from = h.from; ticket = h.ticket }

triggered_one : (spec : AccountSpec) (prices : PriceList) (last : ℕ) (o : Order) → IsStanding spec prices last o → IsStanding spec prices last (triggered o)
triggered_one spec prices last o h = elim (is_stop_limit o.kind) as (λ b. IsStanding spec prices last (cond b (record o { kind = triggered_kind o.kind; price = o.stoplimit; stoplimit = pos 0 }) o)) [
  | true ↦ record { symbol = h.symbol; priced = h.priced; some = h.some; most = h.most; from = h.from; ticket = h.ticket }
  | false ↦ h
]

triggered_standing : (spec : AccountSpec) (prices : PriceList) (last : ℕ) (o : Option Order) → IfSome o (IsStanding spec prices last) → IfSome (option_map triggered o) (IsStanding spec prices last)
triggered_standing spec prices last None h = tt
triggered_standing spec prices last (Some o) h = triggered_one spec prices last o h

-- the orders after an event
orders_step : (spec : AccountSpec) (prices : PriceList) (times : List (Option ℤ)) (es : List Event) (e : Event) → All (IsStanding spec prices (last_order es)) (orders_in_force es) → MayEnter spec prices times es e → All (IsStanding spec prices (greater_number (last_order es) (order_of_event e))) (orders_after (orders_in_force es) e)
orders_step spec prices times es (Placed o) h m = all_put (IsStanding spec prices (greater_number (last_order es) o.ticket)) order_ticket o.ticket (Some o) (orders_in_force es) (all_standing_on spec prices (last_order es) _ (orders_in_force es) (greater_left (last_order es) o.ticket) h) m.0
orders_step spec prices times es (Modified o) h m =
    rw (greater_none (last_order es)) (all_put (IsStanding spec prices (last_order es)) order_ticket o.ticket _ (orders_in_force es) h (changed_standing spec prices (last_order es) o (item order_ticket o.ticket (orders_in_force es)) (all_item (IsStanding spec prices (last_order es)) order_ticket o.ticket (orders_in_force es) h)))
orders_step spec prices times es (Removed t cause) h m = rw (greater_none (last_order es)) (all_put (IsStanding spec prices (last_order es)) order_ticket t None (orders_in_force es) h tt)
orders_step spec prices times es (Triggered t) h m =
    rw (greater_none (last_order es)) (all_put (IsStanding spec prices (last_order es)) order_ticket t _ (orders_in_force es) h (triggered_standing spec prices (last_order es) (item order_ticket t (orders_in_force es)) (all_item (IsStanding spec prices (last_order es)) order_ticket t (orders_in_force es) h)))
orders_step spec prices times es (Added d) h m = all_standing_on spec prices (last_order es) _ (orders_in_force es) (greater_left (last_order es) d.order) h
orders_step spec prices times es (Stops t sl tp) h m = rw (greater_none (last_order es)) h
orders_step spec prices times es (Swap t amount) h m = rw (greater_none (last_order es)) h

-- other stops, or more swap within its bound
stopped : (spec : AccountSpec) (prices : PriceList) (times : List (Option ℤ)) (last n : ℕ) (sl tp : ℤ) (o : Option Position) → IfSome o (IsKept spec prices times last n) → IfSome (option_map (with_stops sl tp) o) (IsKept spec prices times last n)
stopped spec prices times last n sl tp None h = tt
stopped spec prices times last n sl tp (Some p) h = record { symbol = h.symbol; priced = h.priced; held = record { some = h.held.some; volume = h.held.volume; price = h.held.price; swap = h.held.swap }; volume = h.volume; swap = h.swap; from = h.from; ticket = h.ticket }

pub swap_fits : (times : List (Option ℤ)) (s : ℕ) (z : ℤ) → day_at times s ≤ 2 ^ 19 → unsigned_abs z ≤ 2 ^ 66 * day_at times s → FitsSigned w128 z
swap_fits times s z d h = fits_signed_from_abs w128 z (omega (arith, d, h))

swapped : (spec : AccountSpec) (prices : PriceList) (times : List (Option ℤ)) (last n : ℕ) (amount : ℤ) (o : Option Position) → AreQuoted spec prices times → IfSome o (IsKept spec prices times last n) → IfSome o (λ p. unsigned_abs (p.swap +ℤ amount) ≤ 2 ^ 66 * day_at times p.symbol) → IfSome (option_map (with_swap amount) o) (IsKept spec prices times last n)
swapped spec prices times last n amount None q h k = tt
swapped spec prices times last n amount (Some p) q h k = record { symbol = h.symbol; priced = h.priced; held = record { some = h.held.some; volume = h.held.volume; price = h.held.price; swap = swap_fits times p.symbol (p.swap +ℤ amount) (day_small times p.symbol q.moments) k }; volume = h.volume; swap = k; from = h.from; ticket = h.ticket }

swap_types : (times : List (Option ℤ)) (amount : ℤ) (o : Option Position) → ((s : ℕ) → day_at times s ≤ 2 ^ 19) → IfSome o (λ p. unsigned_abs (p.swap +ℤ amount) ≤ 2 ^ 66 * day_at times p.symbol) → IfSome o (λ p. FitsSigned w128 (p.swap +ℤ amount))
swap_types times amount None d k = tt
swap_types times amount (Some p) d k = swap_fits times p.symbol (p.swap +ℤ amount) (d p.symbol) k

-- how many deals an event adds
abbrev pub count_of : Event → ℕ
count_of e = length (cons_option (deal_of e) [])

pub count_more : (es : List Event) (e : Event) → length (deals (es ++ e ∷ [])) ≡ length (deals es) + count_of e
count_more es e = ap (λ (ds : List Deal). length ds) (deals_more es e) ∙ length-append (deals es) (cons_option (deal_of e) [])

add_none : (n : ℕ) → n + 0 ≡ n
add_none n = omega arith

-- the positions after an event
positions_step : (spec : AccountSpec) (prices : PriceList) (times : List (Option ℤ)) (es : List Event) (e : Event) → AreQuoted spec prices times → All (IsKept spec prices times (last_order es) (length (deals es))) (open_positions es) → MayEnter spec prices times es e → All (IsKept spec prices times (greater_number (last_order es) (order_of_event e)) (length (deals es) + count_of e)) (positions_after (open_positions es) e)
positions_step spec prices times es (Added d) q h m =
    rw m.trade (all_put (IsKept spec prices times (greater_number (last_order es) d.order) (length (deals es) + 1)) position_ticket d.position _ (open_positions es) (all_kept_on spec prices times (last_order es) _ (length (deals es)) _ (open_positions es) (greater_left (last_order es) d.order) (omega arith) h) m.left)
positions_step spec prices times es (Stops t sl tp) q h m =
    rw (greater_none (last_order es)) (rw (add_none (length (deals es))) (all_put (IsKept spec prices times (last_order es) (length (deals es))) position_ticket t _ (open_positions es) h (stopped spec prices times (last_order es) (length (deals es)) sl tp (item position_ticket t (open_positions es)) (all_item (IsKept spec prices times (last_order es) (length (deals es))) position_ticket t (open_positions es) h))))
positions_step spec prices times es (Swap t amount) q h m =
    rw (greater_none (last_order es)) (rw (add_none (length (deals es))) (all_put (IsKept spec prices times (last_order es) (length (deals es))) position_ticket t _ (open_positions es) h (swapped spec prices times (last_order es) (length (deals es)) amount (item position_ticket t (open_positions es)) q (all_item (IsKept spec prices times (last_order es) (length (deals es))) position_ticket t (open_positions es) h) m)))
positions_step spec prices times es (Placed o) q h m = all_kept_on spec prices times (last_order es) _ (length (deals es)) _ (open_positions es) (greater_left (last_order es) o.ticket) (omega arith) h
positions_step spec prices times es (Modified o) q h m = rw (greater_none (last_order es)) (rw (add_none (length (deals es))) h)
positions_step spec prices times es (Removed t cause) q h m = rw (greater_none (last_order es)) (rw (add_none (length (deals es))) h)
positions_step spec prices times es (Triggered t) q h m = rw (greater_none (last_order es)) (rw (add_none (length (deals es))) h)

-- the deals after an event
first_step : (spec : AccountSpec) (es : List Event) (o : Option Deal) → take 1 (deals es) ≡ deposit_deal spec ∷ [] → take 1 (deals es ++ cons_option o []) ≡ deposit_deal spec ∷ []
first_step spec es None h = ap (λ (ds : List Deal). take 1 ds) (append-nil (deals es)) ∙ h
first_step spec es (Some d) h = still_first (deals es) (deposit_deal spec) d h

few_step : (spec : AccountSpec) (prices : PriceList) (times : List (Option ℤ)) (es : List Event) (e : Event) → length (deals es) ≤ 50000 → MayEnter spec prices times es e → length (deals es) + count_of e ≤ 50000
few_step spec prices times es (Added d) h m = omega (arith, m.few)
few_step spec prices times es (Placed o) h m = omega (arith, h)
few_step spec prices times es (Modified o) h m = omega (arith, h)
few_step spec prices times es (Removed t cause) h m = omega (arith, h)
few_step spec prices times es (Triggered t) h m = omega (arith, h)
few_step spec prices times es (Stops t sl tp) h m = omega (arith, h)
few_step spec prices times es (Swap t amount) h m = omega (arith, h)

quiet_nets : (es : List Event) (e : Event) → deal_of e ≡ None → All IsSmall (trading_deals es) → All IsSmall (trading_deals (es ++ e ∷ []))
quiet_nets es e q h = rw (deals_more es e) (rw q (rw (append-nil (deals es)) h))

nets_step : (spec : AccountSpec) (prices : PriceList) (times : List (Option ℤ)) (es : List Event) (e : Event) → take 1 (deals es) ≡ deposit_deal spec ∷ [] → All IsSmall (trading_deals es) → MayEnter spec prices times es e → All IsSmall (trading_deals (es ++ e ∷ []))
nets_step spec prices times es (Added d) f h m = rw (trading_more spec es d f) (All-append IsSmall (trading_deals es) (d ∷ []) h (All-cons IsSmall d [] m.small (All-nil IsSmall)))
nets_step spec prices times es (Placed o) f h m = quiet_nets es (Placed o) refl h
nets_step spec prices times es (Modified o) f h m = quiet_nets es (Modified o) refl h
nets_step spec prices times es (Removed t cause) f h m = quiet_nets es (Removed t cause) refl h
nets_step spec prices times es (Triggered t) f h m = quiet_nets es (Triggered t) refl h
nets_step spec prices times es (Stops t sl tp) f h m = quiet_nets es (Stops t sl tp) refl h
nets_step spec prices times es (Swap t amount) f h m = quiet_nets es (Swap t amount) refl h

-- orders and positions after an event
tidy_step : (spec : AccountSpec) (prices : PriceList) (times : List (Option ℤ)) (es : List Event) (e : Event) → IsTidy spec.hedging (orders_in_force es) (open_positions es) → MayEnter spec prices times es e → IsTidy spec.hedging (orders_after (orders_in_force es) e) (positions_after (open_positions es) e)
tidy_step spec prices times es (Added d) h m = rw m.trade (record {
  apart = apart_changed (orders_in_force es) (open_positions es) d.position _ (after-deal-key d (item position_ticket d.position (open_positions es)) (item_key position_ticket d.position (open_positions es))) m.alone h.apart;
  unique = λ g. unique_changed (open_positions es) d.position _ (after-deal-key d (item position_ticket d.position (open_positions es)) (item_key position_ticket d.position (open_positions es))) (m.sole g) (h.unique g);
})
tidy_step spec prices times es (Stops t sl tp) h m = record {
  apart = apart_mapped (orders_in_force es) (open_positions es) t (with_stops sl tp) (λ p. refl) h.apart;
  unique = λ g. unique_changed (open_positions es) t _ (quiet-key (with_stops sl tp) t (item position_ticket t (open_positions es)) (λ p. refl) (item_key position_ticket t (open_positions es))) (sole_mapped (open_positions es) t (with_stops sl tp) (λ p. refl)) (h.unique g);
}
tidy_step spec prices times es (Swap t amount) h m = record {
  apart = apart_mapped (orders_in_force es) (open_positions es) t (with_swap amount) (λ p. refl) h.apart;
  unique = λ g. unique_changed (open_positions es) t _ (quiet-key (with_swap amount) t (item position_ticket t (open_positions es)) (λ p. refl) (item_key position_ticket t (open_positions es))) (sole_mapped (open_positions es) t (with_swap amount) (λ p. refl)) (h.unique g);
}
tidy_step spec prices times es (Placed o) h m = record { apart = apart_placed (orders_in_force es) (open_positions es) o m.1 h.apart; unique = h.unique }
tidy_step spec prices times es (Modified o) h m = record { apart = apart_altered (orders_in_force es) (open_positions es) o.ticket (changed o) (λ x. refl) h.apart; unique = h.unique }
tidy_step spec prices times es (Removed t cause) h m = record { apart = apart_removed (orders_in_force es) (open_positions es) t h.apart; unique = h.unique }
tidy_step spec prices times es (Triggered t) h m = record { apart = apart_altered (orders_in_force es) (open_positions es) t triggered triggered_ticket h.apart; unique = h.unique }

-- a sound journal is sound after an event that may be added
pub sound_more : (spec : AccountSpec) (prices : PriceList) (times : List (Option ℤ)) (es : List Event) (e : Event) → AreQuoted spec prices times → IsSound spec prices times es → MayEnter spec prices times es e → IsSound spec prices times (es ++ e ∷ [])
sound_more spec prices times es e q s m = record {
  account = s.account;
  first = ap (λ (ds : List Deal). take 1 ds) (deals_more es e) ∙ first_step spec es (deal_of e) s.first;
  few = rw (count_more es e) (few_step spec prices times es e s.few m);
  positions = rw (last_more es e) (rw (count_more es e) (rw (open_more es e) (positions_step spec prices times es e q s.positions m)));
  orders = rw (last_more es e) (rw (orders_more es e) (orders_step spec prices times es e s.orders m));
  nets = nets_step spec prices times es e s.first s.nets m;
  tidy = rw (orders_more es e) (rw (open_more es e) (tidy_step spec prices times es e s.tidy m));
}

-- what the ledger asks for
pub sound_within : (spec : AccountSpec) (prices : PriceList) (times : List (Option ℤ)) (es : List Event) → AreQuoted spec prices times → IsSound spec prices times es → IsWithin spec es
sound_within spec prices times es q s = within spec es s.account q.symbols s.first s.few (all_held spec prices times (last_order es) (length (deals es)) (open_positions es) s.positions) s.nets

pub within_more : (spec : AccountSpec) (prices : PriceList) (times : List (Option ℤ)) (es : List Event) (e : Event) → AreQuoted spec prices times → IsSound spec prices times es → MayEnter spec prices times es e → IsWithin spec (es ++ e ∷ [])
within_more spec prices times es e q s m = sound_within spec prices times (es ++ e ∷ []) q (sound_more spec prices times es e q s m)

pub types_kept : (spec : AccountSpec) (prices : PriceList) (times : List (Option ℤ)) (es : List Event) (e : Event) → AreQuoted spec prices times → MayEnter spec prices times es e → KeepsTypes (open_positions es) e
types_kept spec prices times es (Added d) q m = rw m.trade m.types
types_kept spec prices times es (Placed o) q m = tt
types_kept spec prices times es (Modified o) q m = tt
types_kept spec prices times es (Removed t cause) q m = tt
types_kept spec prices times es (Triggered t) q m = tt
types_kept spec prices times es (Stops t sl tp) q m = tt
types_kept spec prices times es (Swap t amount) q m = swap_types times amount (item position_ticket t (open_positions es)) (λ s. day_small times s q.moments) m

pub of_account : (spec : AccountSpec) (prices : PriceList) (times : List (Option ℤ)) (es : List Event) (e : Event) → MayEnter spec prices times es e → IsEventOf spec (open_positions es) e
of_account spec prices times es (Added d) m = record { symbol = m.symbol; same = m.same }
of_account spec prices times es (Placed o) m = m.0.symbol
of_account spec prices times es (Modified o) m = m
of_account spec prices times es (Removed t cause) m = tt
of_account spec prices times es (Triggered t) m = tt
of_account spec prices times es (Stops t sl tp) m = tt
of_account spec prices times es (Swap t amount) m = tt

-- a ledger that took an event
pub sound_entered : (spec spec' : AccountSpec) (prices : PriceList) (times : List (Option ℤ)) (es es' : List Event) (e : Event) → spec' ≡ spec → es' ≡ es ++ e ∷ [] → AreQuoted spec prices times → IsSound spec prices times es → MayEnter spec prices times es e → IsSound spec' prices times es' × AreQuoted spec' prices times
sound_entered spec spec' prices times es es' e s h q i m = rw s (rw h (sound_more spec prices times es e q i m, q))
