-- A fired order: its fill may be done, and what it leaves.
use Rattle.std.proofs.Common.{◌≡◌, ◌∙◌, ℕ, ◌+◌, ◌<◌, ◌≤◌, ◌++◌, append-nil, append_assoc, Bool, true, false, not, cond, List, [], ◌∷◌, length, Option, Some, None, Result, Ok, Err, ℤ, refl, ap, sym, subst, arith, is_some}
use Rattle.std.specs.Prelude.{IfSome}
use Rattle.std.proofs.lemmas.Int.{ints}
use Rattle.account.specs.declared.deal.Deal.{Deal}
use Rattle.account.specs.declared.deal.DealReason.{DealReason}
use Rattle.account.specs.declared.order.Order.{Order}
use Rattle.account.specs.declared.position.Position.{Position}
use Rattle.account.specs.declared.event.Event.{Event}
use Rattle.account.specs.declared.event.Event.TheVariants.{Removed, Triggered}
use Rattle.account.specs.declared.event.RemovalCause.{RemovalCause}
use Rattle.account.specs.declared.event.RemovalCause.TheVariants as cause
use Rattle.account.specs.Deals.{deals}
use Rattle.account.specs.Journal.{Journal}
use Rattle.account.specs.Keyed.{item, KeyIs}
use Rattle.account.specs.Orders.{order_ticket, is_stop_limit, orders_in_force}
use Rattle.account.specs.Positions.{position_ticket, same_side, open_positions}
use Rattle.account.specs.StopOut.{PriceList, prices_at}
use Rattle.account.proofs.Found.{all_item}
use Rattle.account.proofs.Keys.{item-put, item_key}
use Rattle.account.proofs.Kept.{deals_more, open_more}
use Rattle.judgement.specs.Rules.{kind_buys}
use Rattle.positions.specs.declared.fill.Fill.{Fill}
use Rattle.positions.specs.Fills.{met, refusal, events_on, IsFill}
use Rattle.positions.specs.Money.{has_money_for}
use Rattle.desk.specs.declared.fault.DeskFault.{DeskFault}
use Rattle.desk.specs.declared.fault.DeskFault.TheVariants as desk_fault
use Rattle.desk.specs.State.{Quoted, journal_of, have_room}
use Rattle.desk.specs.Sound.{IsStanding, IsSound, AreQuoted, MayFill}
use Rattle.desk.specs.Books.{Kept, gained, with_more, fill_events, IsFillable}
use Rattle.desk.specs.Effect.{act, closing_of, events_of_fill, fill_of_order, last_prices, on_side, order_filled, order_fired, position_closed}
use Rattle.desk.specs.Firing.{IsOrderFill}
use Rattle.desk.specs.Runs.{Runs}
use Rattle.desk.specs.Tickets.{last_order, next_of}
use Rattle.desk.proofs.Closed.{last_fit, nothing_runs, run_of}
use Rattle.desk.proofs.Entered.{greater_none, last_more, orders_more}
use Rattle.desk.proofs.FiringRuns.{as_act, run_from}
use Rattle.desk.proofs.Outcomes.{deal_room, deal_full}
use Rattle.desk.proofs.Ready.{found_symbol, modest_all, price_fits}

-- an order that stands at a ticket
standing_at : (q : Quoted) (t : ℕ) (o : Order) → IsSound q.spec q.prices q.times q.events → item order_ticket t (orders_in_force q.events) ≡ Some o → IsStanding q.spec q.prices (last_order q.events) o
standing_at q t o s e = subst (λ (x : Option Order). IfSome x (IsStanding q.spec q.prices (last_order q.events))) e (all_item (IsStanding q.spec q.prices (last_order q.events)) order_ticket t (orders_in_force q.events) s.orders)

ticket_at : (os : List Order) (t : ℕ) (o : Order) → item order_ticket t os ≡ Some o → o.ticket ≡ t
ticket_at os t o e = subst (λ (x : Option Order). KeyIs order_ticket t x) e (item_key order_ticket t os)

-- its symbol has its place among the prices
pub is_symbol : (q : Quoted) (t : ℕ) (o : Order) → AreQuoted q.spec q.prices q.times → IsSound q.spec q.prices q.times q.events → item order_ticket t (orders_in_force q.events) ≡ Some o → o.symbol < length q.prices
is_symbol q t o a s e =
    let k : IsStanding q.spec q.prices (last_order q.events) o = standing_at q t o s e in
    omega (arith, k.symbol, a.each_price)

-- what its fill meets is of its symbol
order_met : (hedging : Bool) (ps : List Position) (deal : ℕ) (time_ms : ℤ) (pair : ℤ × ℤ) (o : Order) → IfSome (met hedging ps (fill_of_order deal time_ms pair o)) (λ p. p.symbol ≡ o.symbol)
order_met false ps deal time_ms pair o = found_symbol ps o.symbol
order_met true ps deal time_ms pair o = tt

-- its fill
pub order_fill : (q : Quoted) (deal : ℕ) (time_ms : ℤ) (t : ℕ) (o : Order) → AreQuoted q.spec q.prices q.times → IsSound q.spec q.prices q.times q.events → item order_ticket t (orders_in_force q.events) ≡ Some o → IsOrderFill q (fill_of_order deal time_ms (last_prices q.prices o.symbol) o)
order_fill q deal time_ms t o a s e =
    let k : IsStanding q.spec q.prices (last_order q.events) o = standing_at q t o s e in
    let same : o.ticket ≡ t = ticket_at (orders_in_force q.events) t o e in
    let stands : is_some (item order_ticket o.ticket (orders_in_force q.events)) ≡ true = subst (λ (n : ℕ). is_some (item order_ticket n (orders_in_force q.events)) ≡ true) (sym same) (ap is_some e) in
    let f : Fill = fill_of_order deal time_ms (last_prices q.prices o.symbol) o in
    record {
      may = record {
        symbol = k.symbol;
        priced = k.priced;
        some = k.some;
        modest = modest_all f (met q.spec.hedging (open_positions q.events) f) k.most;
        volume = omega (arith, ints, k.some, k.most);
        bounded = omega (arith, ints, k.most);
        price = price_fits (not (kind_buys o.kind)) (last_prices q.prices o.symbol) (last_fit q o.symbol (prices_at q.prices o.symbol) a refl k.priced);
        same = order_met q.spec.hedging (open_positions q.events) deal time_ms (last_prices q.prices o.symbol) o;
      };
      unnamed = refl;
      from = k.from;
      taken = k.ticket;
      fresh = s.tidy.apart o.ticket stands;
    }

pub is_order_fill : (q : Quoted) (time_ms : ℤ) (t : ℕ) (o : Order) (f : Fill) → AreQuoted q.spec q.prices q.times → IsSound q.spec q.prices q.times q.events → item order_ticket t (orders_in_force q.events) ≡ Some o → f ≡ fill_of_order (next_of q.events).deal time_ms (last_prices q.prices o.symbol) o → IsOrderFill q f
is_order_fill q time_ms t o f a s e h = rw h (order_fill q (next_of q.events).deal time_ms t o a s e)

-- what the rule of money asks for
pub is_fill : (q : Quoted) (j : Journal) (f : Fill) → j ≡ journal_of q → IsOrderFill q f → IsFill j.spec.hedging j.spec.specs (open_positions j.events) f
is_fill q j f e h = rw e (record { symbol = h.may.symbol; some = h.may.some; order = λ n. h.from; fresh = λ n. h.fresh })

pub is_priced : (q : Quoted) (prices : PriceList) (f : Fill) → prices ≡ q.prices → IsOrderFill q f → is_some (prices_at prices f.symbol) ≡ true
is_priced q prices f e h = rw e h.may.priced

-- once its order is removed, its fill may be done
accepted : (hedging : Bool) (ps : List Position) (f : Fill) → f.position ≡ 0 → refusal hedging ps f ≡ None
accepted hedging ps f h = rw h refl

removed_fillable : (q : Quoted) (f : Fill) → IsOrderFill q f → IsFillable (with_more (Removed f.order cause.Filled ∷ []) q) f
removed_fillable q f h =
    let e : Event = Removed f.order cause.Filled in
    let ps : open_positions (q.events ++ e ∷ []) ≡ open_positions q.events = open_more q.events e in
    let last : last_order (q.events ++ e ∷ []) ≡ last_order q.events = last_more q.events e ∙ greater_none (last_order q.events) in
    record {
      may = subst (λ (x : List Position). MayFill q.spec q.prices f (met q.spec.hedging x f)) (sym ps) h.may;
      accepted = accepted q.spec.hedging (open_positions (q.events ++ e ∷ [])) f h.unnamed;
      order = λ n. h.from;
      taken = subst (λ (n : ℕ). f.order ≤ n + 1) (sym last) (omega (arith, h.taken));
      fresh = λ n. subst (λ (x : List Position). item position_ticket f.order x ≡ None) (sym ps) h.fresh;
      alone = λ n. subst (λ (x : List Order). item order_ticket f.order x ≡ None) (sym (orders_more q.events e)) (item-put order_ticket f.order None (orders_in_force q.events) tt);
    }

pub is_fillable : (b b1 : Kept) (f : Fill) → b1 ≡ gained (Removed f.order cause.Filled ∷ []) b → IsOrderFill b.quoted f → IsFillable b1.quoted f
is_fillable b b1 f e h = rw e (removed_fillable b.quoted f h)

-- the removal is no deal
pub room_left : (b b1 : Kept) (t : ℕ) (c : RemovalCause) → b1 ≡ gained (Removed t c ∷ []) b → length (deals b.quoted.events) < 50000 → length (deals b1.quoted.events) < 50000
room_left b b1 t c e h =
    rw e (subst (λ (ds : List Deal). length ds < 50000) (sym (deals_more b.quoted.events (Removed t c) ∙ append-nil (deals b.quoted.events))) h)

-- both together
events_stay : (q : Quoted) (t : ℕ) (c : RemovalCause) (f : Fill) → fill_events f (with_more (Removed t c ∷ []) q) ≡ fill_events f q
events_stay q t c f = ap (λ (ps : List Position). events_on q.spec.specs f (met q.spec.hedging ps f)) (open_more q.events (Removed t c))

pub both_gained : (b b1 b2 : Kept) (f : Fill) (t : ℕ) (c : RemovalCause) → b1 ≡ gained (Removed t c ∷ []) b → b2 ≡ gained (fill_events f b1.quoted) b1 → b2 ≡ gained (Removed t c ∷ fill_events f b.quoted) b
both_gained b b1 b2 f t c e h =
    h ∙ ap (λ (k : Kept). gained (fill_events f k.quoted) k) e
    ∙ ap (λ (more : List Event). gained more (gained (Removed t c ∷ []) b)) (events_stay b.quoted t c f)
    ∙ ap (λ (es : List Event). record b { quoted = record b.quoted { events = es } }) (append_assoc b.quoted.events (Removed t c ∷ []) (fill_events f b.quoted))

-- what a fill adds where there is money, and where there is none
events_are : (q : Quoted) (f : Fill) → IsOrderFill q f → events_of_fill q.spec q.events f ≡ fill_events f q
events_are q f h = rw (accepted q.spec.hedging (open_positions q.events) f h.unnamed) refl

adds_filled : (q : Quoted) (f : Fill) → IsOrderFill q f → has_money_for q.spec q.prices q.events f ≡ true → order_filled q.spec q.prices f q.events ≡ Removed f.order cause.Filled ∷ fill_events f q
adds_filled q f h m = rw m (ap (λ (es : List Event). Removed f.order cause.Filled ∷ es) (events_are q f h))

adds_refused : (q : Quoted) (f : Fill) → has_money_for q.spec q.prices q.events f ≡ false → order_filled q.spec q.prices f q.events ≡ Removed f.order cause.NoMoney ∷ []
adds_refused q f m = rw m refl

-- a removal takes no room of deals
quiet_room : (es more : List Event) (t : ℕ) (c : RemovalCause) → have_room es (Removed t c ∷ more) ≡ have_room es more
unfolding have_room
quiet_room es more t c = refl

pub filled_runs : (b b' : Kept) (f : Fill) (enough : Bool) (x : Unit {0}) → IsOrderFill b.quoted f → enough ≡ has_money_for b.quoted.spec b.quoted.prices b.quoted.events f → enough ≡ true → length (deals b.quoted.events) < 50000 → b' ≡ gained (Removed f.order cause.Filled ∷ fill_events f b.quoted) b → Runs b (act (order_filled b.quoted.spec b.quoted.prices f) (run_from b)) (Ok x) b'
filled_runs b b' f enough x h m g l e =
    as_act b b' (order_filled b.quoted.spec b.quoted.prices f) (Removed f.order cause.Filled ∷ fill_events f b.quoted) (Ok x) (adds_filled b.quoted f h (sym m ∙ g))
    (rw (quiet_room b.quoted.events (fill_events f b.quoted) f.order cause.Filled ∙ deal_room f b.quoted l) (refl, e))

pub filled_exhausts : (b b' : Kept) (f : Fill) (enough : Bool) → IsOrderFill b.quoted f → enough ≡ has_money_for b.quoted.spec b.quoted.prices b.quoted.events f → enough ≡ true → 50000 ≤ length (deals b.quoted.events) → b' ≡ b → Runs {A = Unit {0}} b (act (order_filled b.quoted.spec b.quoted.prices f) (run_from b)) (Err desk_fault.DealsExhausted) b'
filled_exhausts b b' f enough h m g l e =
    as_act b b' (order_filled b.quoted.spec b.quoted.prices f) (Removed f.order cause.Filled ∷ fill_events f b.quoted) (Err desk_fault.DealsExhausted) (adds_filled b.quoted f h (sym m ∙ g))
    (rw (quiet_room b.quoted.events (fill_events f b.quoted) f.order cause.Filled ∙ deal_full f b.quoted l) (refl, e))

pub refused_runs : (b b' : Kept) (f : Fill) (enough : Bool) (r : Result (Unit {0}) DeskFault) → enough ≡ has_money_for b.quoted.spec b.quoted.prices b.quoted.events f → enough ≡ false → Runs b (run_of b.quoted.events (Removed f.order cause.NoMoney ∷ [])) r b' → Runs b (act (order_filled b.quoted.spec b.quoted.prices f) (run_from b)) r b'
refused_runs b b' f enough r m g h = as_act b b' (order_filled b.quoted.spec b.quoted.prices f) (Removed f.order cause.NoMoney ∷ []) r (adds_refused b.quoted f (sym m ∙ g)) h

-- what the order of a ticket does
abbrev pub order_adds : Kept → ℤ → ℕ → List Event → List Event
order_adds b time_ms t events = order_fired b.quoted.spec b.quoted.prices time_ms events (item order_ticket t (orders_in_force events))

adds_gone : (b : Kept) (time_ms : ℤ) (t : ℕ) → item order_ticket t (orders_in_force b.quoted.events) ≡ None → order_adds b time_ms t b.quoted.events ≡ []
adds_gone b time_ms t h = rw h refl

adds_limit : (b : Kept) (time_ms : ℤ) (t : ℕ) (o : Order) → item order_ticket t (orders_in_force b.quoted.events) ≡ Some o → is_stop_limit o.kind ≡ true → order_adds b time_ms t b.quoted.events ≡ Triggered t ∷ []
adds_limit b time_ms t o h k = rw h (rw k (ap (λ (n : ℕ). Triggered n ∷ []) (ticket_at (orders_in_force b.quoted.events) t o h)))

adds_order : (b : Kept) (time_ms : ℤ) (t : ℕ) (o : Order) (f : Fill) → item order_ticket t (orders_in_force b.quoted.events) ≡ Some o → is_stop_limit o.kind ≡ false → f ≡ fill_of_order (next_of b.quoted.events).deal time_ms (last_prices b.quoted.prices o.symbol) o → order_adds b time_ms t b.quoted.events ≡ order_filled b.quoted.spec b.quoted.prices f b.quoted.events
adds_order b time_ms t o f h k e = rw h (rw k (ap (λ (x : Fill). order_filled b.quoted.spec b.quoted.prices x b.quoted.events) (sym e)))

pub gone_runs : (b b' : Kept) (time_ms : ℤ) (t : ℕ) (x : Unit {0}) → IsSound b.quoted.spec b.quoted.prices b.quoted.times b.quoted.events → item order_ticket t (orders_in_force b.quoted.events) ≡ None → b' ≡ b → Runs b (act (order_adds b time_ms t) (run_from b)) (Ok x) b'
gone_runs b b' time_ms t x s h e = as_act b b' (order_adds b time_ms t) [] (Ok x) (adds_gone b time_ms t h) (subst (λ (k : Kept). Runs b (run_of b.quoted.events []) (Ok x) k) (sym e) (nothing_runs b x s))

pub limit_runs : (b b' : Kept) (time_ms : ℤ) (t : ℕ) (o : Order) (r : Result (Unit {0}) DeskFault) → item order_ticket t (orders_in_force b.quoted.events) ≡ Some o → is_stop_limit o.kind ≡ true → Runs b (run_of b.quoted.events (Triggered t ∷ [])) r b' → Runs b (act (order_adds b time_ms t) (run_from b)) r b'
limit_runs b b' time_ms t o r h k g = as_act b b' (order_adds b time_ms t) (Triggered t ∷ []) r (adds_limit b time_ms t o h k) g

pub order_runs : (b b' : Kept) (time_ms : ℤ) (t : ℕ) (o : Order) (f : Fill) (r : Result (Unit {0}) DeskFault) → item order_ticket t (orders_in_force b.quoted.events) ≡ Some o → is_stop_limit o.kind ≡ false → f ≡ fill_of_order (next_of b.quoted.events).deal time_ms (last_prices b.quoted.prices o.symbol) o → Runs b (act (order_filled b.quoted.spec b.quoted.prices f) (run_from b)) r b' → Runs b (act (order_adds b time_ms t) (run_from b)) r b'
order_runs b b' time_ms t o f r h k e g = as_act b b' (order_adds b time_ms t) (order_filled b.quoted.spec b.quoted.prices f b.quoted.events) r (adds_order b time_ms t o f h k e) g

-- what a stop does
abbrev pub stop_adds : Kept → ℤ → ℕ → Bool → DealReason → List Event → List Event
stop_adds b time_ms t buy why events = position_closed b.quoted.spec b.quoted.prices time_ms why events (on_side buy (item position_ticket t (open_positions events)))

still_there : (buy : Bool) (o : Option Position) → is_some (on_side buy o) ≡ true → on_side buy o ≡ o
still_there buy None h = refl
still_there buy (Some p) h = elim (same_side p.buy buy) as (λ c. is_some (cond c (Some p) None) ≡ true → cond c (Some p) None ≡ Some p) [ true ↦ λ g. refl | false ↦ λ g. cc ] h

not_there : (buy : Bool) (o : Option Position) → is_some (on_side buy o) ≡ false → on_side buy o ≡ None
not_there buy None h = refl
not_there buy (Some p) h = elim (same_side p.buy buy) as (λ c. is_some (cond c (Some p) None) ≡ false → cond c (Some p) None ≡ None) [ true ↦ λ g. cc | false ↦ λ g. refl ] h

pub stop_runs : (b b' : Kept) (time_ms : ℤ) (t : ℕ) (buy : Bool) (why : DealReason) (stands : Bool) (r : Result (Unit {0}) DeskFault) → stands ≡ is_some (on_side buy (item position_ticket t (open_positions b.quoted.events))) → stands ≡ true → Runs b (act (closing_of b.quoted.spec b.quoted.prices time_ms why t) (run_from b)) r b' → Runs b (act (stop_adds b time_ms t buy why) (run_from b)) r b'
stop_runs b b' time_ms t buy why stands r h k g =
    as_act b b' (stop_adds b time_ms t buy why) (closing_of b.quoted.spec b.quoted.prices time_ms why t b.quoted.events) r
    (ap (λ (o : Option Position). position_closed b.quoted.spec b.quoted.prices time_ms why b.quoted.events o) (still_there buy (item position_ticket t (open_positions b.quoted.events)) (sym h ∙ k))) g

pub no_stop_runs : (b b' : Kept) (time_ms : ℤ) (t : ℕ) (buy : Bool) (why : DealReason) (stands : Bool) (x : Unit {0}) → IsSound b.quoted.spec b.quoted.prices b.quoted.times b.quoted.events → stands ≡ is_some (on_side buy (item position_ticket t (open_positions b.quoted.events))) → stands ≡ false → b' ≡ b → Runs b (act (stop_adds b time_ms t buy why) (run_from b)) (Ok x) b'
no_stop_runs b b' time_ms t buy why stands x s h k e =
    as_act b b' (stop_adds b time_ms t buy why) [] (Ok x)
    (ap (λ (o : Option Position). position_closed b.quoted.spec b.quoted.prices time_ms why b.quoted.events o) (not_there buy (item position_ticket t (open_positions b.quoted.events)) (sym h ∙ k)))
    (subst (λ (k : Kept). Runs b (run_of b.quoted.events []) (Ok x) k) (sym e) (nothing_runs b x s))
