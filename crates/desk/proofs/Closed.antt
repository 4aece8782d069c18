-- Closing a position: the fill may be done, and what it leaves.
use Rattle.std.proofs.Common.{◌≡◌, ◌∙◌, ℕ, ◌+◌, ◌<◌, ◌≤◌, append-nil, Bool, true, false, not, eqb, List, [], length, Option, Some, None, Result, Ok, Err, ℤ, pos, ◌<ℤ◌, int_lt, refl, ap, sym, subst, arith, rules, is_some}
use Rattle.std.specs.Prelude.{IfSome, unwrap_or}
use Rattle.std.proofs.lemmas.Int.{ints}
use Rattle.account.specs.declared.deal.DealReason.{DealReason}
use Rattle.account.specs.declared.order.Order.{Order}
use Rattle.account.specs.declared.position.Position.{Position}
use Rattle.account.specs.declared.event.Event.{Event}
use Rattle.account.specs.Keyed.{item, Rising, KeyIs}
use Rattle.account.specs.Deals.{deals}
use Rattle.account.specs.Orders.{orders_in_force}
use Rattle.account.specs.Positions.{position_ticket, same_side, open_positions}
use Rattle.account.specs.StopOut.{prices_at}
use Rattle.account.proofs.Found.{all_item}
use Rattle.account.proofs.Keys.{item_key}
use Rattle.account.proofs.Kept.{rising_open}
use Rattle.positions.specs.declared.fill.Fill.{Fill}
use Rattle.positions.specs.Fills.{met, refusal, named_refusal, deal_on}
use Rattle.positions.proofs.Filling.{met_item}
use Rattle.desk.specs.declared.fault.DeskFault.{DeskFault}
use Rattle.desk.specs.declared.fault.DeskFault.TheVariants as desk_fault
use Rattle.desk.specs.State.{Quoted, have_room}
use Rattle.desk.specs.Sound.{IsKept, IsSound, IsModest, AreQuoted, ArePrices, IsTidy}
use Rattle.desk.specs.Books.{Kept, gained, fill_events, IsFillable}
use Rattle.desk.specs.Effect.{Run, act, closing_fill, closing_of, events_of_fill, fill_of_closing, last_prices, position_closed}
use Rattle.desk.specs.Runs.{Runs}
use Rattle.desk.specs.Tickets.{last_order}
use Rattle.desk.proofs.Fits.{none_found}
use Rattle.desk.proofs.Outcomes.{deal_room, deal_full}
use Rattle.desk.proofs.Ready.{found_symbol, prices_fit, price_fits}

not_zero : (t : ℕ) → 0 < t → eqb t 0 ≡ false
not_zero t h = grind (arith, h)

same : (n : ℕ) → eqb n n ≡ true
same n = grind arith

other_side : (b : Bool) → same_side b (not b) ≡ false
other_side true = refl
other_side false = refl

not_less : (v : ℤ) → int_lt v v ≡ false
not_less v = grind (arith, ints)

-- under netting the position of a symbol is the only one
only_one : (os : List Order) (ps : List Position) (p r : Position) (u : ℕ) → IsTidy false os ps → item position_ticket p.ticket ps ≡ Some p → item position_ticket u ps ≡ Some r → r.symbol ≡ p.symbol → Some r ≡ Some p
only_one os ps p r u y e f s =
    let t : p.ticket ≡ u = y.unique refl p.ticket u p r e f (sym s) in
    sym f ∙ ap (λ (n : ℕ). item position_ticket n ps) (sym t) ∙ e

-- the fill that closes a position meets it
found_met : (os : List Order) (ps : List Position) (deal : ℕ) (time_ms : ℤ) (pair : ℤ × ℤ) (why : DealReason) (p : Position) (o : Option Position) → Rising position_ticket ps → IsTidy false os ps → item position_ticket p.ticket ps ≡ Some p → met false ps (fill_of_closing deal time_ms pair why p) ≡ o → o ≡ Some p
found_met os ps deal time_ms pair why p None r y e h = absurd (none_found ps p.symbol p.ticket p h e refl)
found_met os ps deal time_ms pair why p (Some x) r y e h =
    let f : Fill = fill_of_closing deal time_ms pair why p in
    let at : item position_ticket (deal_on [] f (met false ps f)).position ps ≡ met false ps f = met_item false [] ps f r (λ n. absurd (some_none x (sym h ∙ n))) in
    only_one os ps p x (deal_on [] f (met false ps f)).position y e (at ∙ h) (subst (λ (z : Option Position). IfSome z (λ q. q.symbol ≡ p.symbol)) h (found_symbol ps p.symbol))
  where
    some_none : (x : Position) → Some x ≡ None → ⊥
    some_none x h = cc

pub closing_met : (hedging : Bool) (os : List Order) (ps : List Position) (deal : ℕ) (time_ms : ℤ) (pair : ℤ × ℤ) (why : DealReason) (p : Position) → Rising position_ticket ps → IsTidy hedging os ps → 0 < p.ticket → item position_ticket p.ticket ps ≡ Some p → met hedging ps (fill_of_closing deal time_ms pair why p) ≡ Some p
closing_met true os ps deal time_ms pair why p r y z e = rw (not_zero p.ticket z) e
closing_met false os ps deal time_ms pair why p r y z e = found_met os ps deal time_ms pair why p (met false ps (fill_of_closing deal time_ms pair why p)) r y e refl

-- and is not refused
named_accepted : (hedging : Bool) (deal : ℕ) (time_ms : ℤ) (pair : ℤ × ℤ) (why : DealReason) (p : Position) → named_refusal hedging (fill_of_closing deal time_ms pair why p) (Some p) ≡ None
named_accepted false deal time_ms pair why p = rw (same p.symbol) refl
named_accepted true deal time_ms pair why p = rw (same p.symbol) (rw (other_side p.buy) (rw (not_less p.volume) refl))

closing_accepted : (hedging : Bool) (ps : List Position) (deal : ℕ) (time_ms : ℤ) (pair : ℤ × ℤ) (why : DealReason) (p : Position) → 0 < p.ticket → item position_ticket p.ticket ps ≡ Some p → refusal hedging ps (fill_of_closing deal time_ms pair why p) ≡ None
closing_accepted hedging ps deal time_ms pair why p z e = rw (not_zero p.ticket z) (rw e (named_accepted hedging deal time_ms pair why p))

-- all of the position closes, which may be more than a deal that adds
closing_modest : (deal : ℕ) (time_ms : ℤ) (pair : ℤ × ℤ) (why : DealReason) (p : Position) → IsModest (fill_of_closing deal time_ms pair why p) (Some p)
closing_modest deal time_ms pair why p = (λ e. absurd (differ (other_side p.buy) e), λ l. absurd (less p.volume l))
  where
    differ : {b : Bool} → b ≡ false → b ≡ true → ⊥
    differ h e = cc

    less : (v : ℤ) → v <ℤ v → ⊥
    less v l = omega (arith, ints, l)

-- the prices at which it closes
pub last_fit : (q : Quoted) (symbol : ℕ) (o : Option (ℤ × ℤ)) → AreQuoted q.spec q.prices q.times → prices_at q.prices symbol ≡ o → is_some o ≡ true → ArePrices (unwrap_or o (pos 0, pos 0))
last_fit q symbol None a e h = absurd (cc)
last_fit q symbol (Some pair) a e h = prices_fit q.prices symbol pair a.ranges e

-- the fill that closes an open position may be done
pub closing_ready : (q : Quoted) (deal : ℕ) (time_ms : ℤ) (why : DealReason) (p : Position) → AreQuoted q.spec q.prices q.times → IsSound q.spec q.prices q.times q.events → item position_ticket p.ticket (open_positions q.events) ≡ Some p → IsFillable q (fill_of_closing deal time_ms (last_prices q.prices p.symbol) why p)
closing_ready q deal time_ms why p a s e =
    let ps : List Position = open_positions q.events in
    let k : IsKept q.spec q.prices q.times (last_order q.events) (length (deals q.events)) p = subst (λ (x : Option Position). IfSome x (IsKept q.spec q.prices q.times (last_order q.events) (length (deals q.events)))) e (all_item (IsKept q.spec q.prices q.times (last_order q.events) (length (deals q.events))) position_ticket p.ticket ps s.positions) in
    let f : Fill = fill_of_closing deal time_ms (last_prices q.prices p.symbol) why p in
    let m : met q.spec.hedging ps f ≡ Some p = closing_met q.spec.hedging (orders_in_force q.events) ps deal time_ms (last_prices q.prices p.symbol) why p (rising_open q.events) s.tidy k.from e in
    record {
      may = record {
        symbol = k.symbol;
        priced = k.priced;
        some = k.held.some;
        modest = subst (λ (x : Option Position). IsModest f x) (sym m) (closing_modest deal time_ms (last_prices q.prices p.symbol) why p);
        volume = k.held.volume;
        bounded = omega (arith, ints, k.volume, s.few);
        price = price_fits p.buy (last_prices q.prices p.symbol) (last_fit q p.symbol (prices_at q.prices p.symbol) a refl k.priced);
        same = subst (λ (x : Option Position). IfSome x (λ r. r.symbol ≡ p.symbol)) (sym m) refl;
      };
      accepted = closing_accepted q.spec.hedging ps deal time_ms (last_prices q.prices p.symbol) why p k.from e;
      order = λ n. absurd (some_none p (sym m ∙ n));
      taken = omega arith;
      fresh = λ n. absurd (some_none p (sym m ∙ n));
      alone = λ n. absurd (some_none p (sym m ∙ n));
    }
  where
    some_none : (x : Position) → Some x ≡ None → ⊥
    some_none x h = cc

-- what is found at a ticket is the item of its own
pub own_item : (ps : List Position) (t : ℕ) (p : Position) → item position_ticket t ps ≡ Some p → item position_ticket p.ticket ps ≡ Some p
own_item ps t p e =
    let k : KeyIs position_ticket t (Some p) = subst (λ (o : Option Position). KeyIs position_ticket t o) e (item_key position_ticket t ps) in
    subst (λ (n : ℕ). item position_ticket n ps ≡ Some p) (sym k) e

-- the same of the fill that closes what stands at a ticket
by_closing : (q : Quoted) (time_ms : ℤ) (why : DealReason) (t : ℕ) (o : Option Position) (f : Fill) → AreQuoted q.spec q.prices q.times → IsSound q.spec q.prices q.times q.events → item position_ticket t (open_positions q.events) ≡ o → closing_fill q time_ms why o ≡ Some f → IsFillable q f
by_closing q time_ms why t None f a s e h = absurd (cc)
by_closing q time_ms why t (Some p) f a s e h =
    let same : fill_of_closing (length (deals q.events) + 1) time_ms (last_prices q.prices p.symbol) why p ≡ f = grind rules in
    subst (λ (x : Fill). IsFillable q x) same (closing_ready q (length (deals q.events) + 1) time_ms why p a s (own_item (open_positions q.events) t p e))

pub fillable : (q : Quoted) (time_ms : ℤ) (why : DealReason) (t : ℕ) (f : Fill) → AreQuoted q.spec q.prices q.times → IsSound q.spec q.prices q.times q.events → closing_fill q time_ms why (item position_ticket t (open_positions q.events)) ≡ Some f → IsFillable q f
fillable q time_ms why t f a s h = by_closing q time_ms why t (item position_ticket t (open_positions q.events)) f a s refl h

-- the symbol of an open position has its place among the prices
pub is_symbol : (q : Quoted) (t : ℕ) (p : Position) → AreQuoted q.spec q.prices q.times → IsSound q.spec q.prices q.times q.events → item position_ticket t (open_positions q.events) ≡ Some p → p.symbol < length q.prices
is_symbol q t p a s e =
    let k : IsKept q.spec q.prices q.times (last_order q.events) (length (deals q.events)) p = subst (λ (x : Option Position). IfSome x (IsKept q.spec q.prices q.times (last_order q.events) (length (deals q.events)))) e (all_item (IsKept q.spec q.prices q.times (last_order q.events) (length (deals q.events))) position_ticket t (open_positions q.events) s.positions) in
    omega (arith, k.symbol, a.each_price)

-- the events of a fill that may be done
pub events_are : (q : Quoted) (f : Fill) → IsFillable q f → events_of_fill q.spec q.events f ≡ fill_events f q
events_are q f h = rw h.accepted refl

-- what closing adds
adds_by : (q : Quoted) (time_ms : ℤ) (why : DealReason) (o : Option Position) (f : Fill) → closing_fill q time_ms why o ≡ Some f → IsFillable q f → position_closed q.spec q.prices time_ms why q.events o ≡ fill_events f q
adds_by q time_ms why None f h r = absurd (cc)
adds_by q time_ms why (Some p) f h r =
    let same : fill_of_closing (length (deals q.events) + 1) time_ms (last_prices q.prices p.symbol) why p ≡ f = grind rules in
    ap (λ (x : Fill). events_of_fill q.spec q.events x) same ∙ events_are q f r

nothing_by : (q : Quoted) (time_ms : ℤ) (why : DealReason) (o : Option Position) → closing_fill q time_ms why o ≡ None → position_closed q.spec q.prices time_ms why q.events o ≡ []
nothing_by q time_ms why None h = refl
nothing_by q time_ms why (Some p) h = absurd (cc)

-- an act of books that were not full
abbrev pub run_of : List Event → List Event → Run
run_of es more = act (λ e. more) (record { events = es; full = false })

-- a fill, where there is room and where there is none
pub fill_runs : (b b' : Kept) (f : Fill) (x : Unit {0}) → length (deals b.quoted.events) < 50000 → b' ≡ gained (fill_events f b.quoted) b → Runs b (run_of b.quoted.events (fill_events f b.quoted)) (Ok x) b'
fill_runs b b' f x l e = rw (deal_room f b.quoted l) (refl, e)

pub fill_exhausts : (b b' : Kept) (f : Fill) → 50000 ≤ length (deals b.quoted.events) → b' ≡ b → Runs {A = Unit {0}} b (run_of b.quoted.events (fill_events f b.quoted)) (Err desk_fault.DealsExhausted) b'
fill_exhausts b b' f l e = rw (deal_full f b.quoted l) (refl, e)

-- an act that adds the same
pub closing_runs : (b b' : Kept) (time_ms : ℤ) (why : DealReason) (t : ℕ) (f : Fill) (r : Result (Unit {0}) DeskFault) → closing_fill b.quoted time_ms why (item position_ticket t (open_positions b.quoted.events)) ≡ Some f → IsFillable b.quoted f → Runs b (run_of b.quoted.events (fill_events f b.quoted)) r b' → Runs b (act (closing_of b.quoted.spec b.quoted.prices time_ms why t) (record { events = b.quoted.events; full = false })) r b'
closing_runs b b' time_ms why t f r h k g =
    subst (λ (more : List Event). Runs b (run_of b.quoted.events more) r b') (sym (adds_by b.quoted time_ms why (item position_ticket t (open_positions b.quoted.events)) f h k)) g

-- an act that adds nothing
room_for_none : (spec : Quoted) → length (deals spec.events) ≤ 50000 → have_room spec.events [] ≡ true
unfolding have_room
room_for_none q l = grind (arith, l)

pub nothing_runs : (b : Kept) (x : Unit {0}) → IsSound b.quoted.spec b.quoted.prices b.quoted.times b.quoted.events → Runs b (run_of b.quoted.events []) (Ok x) b
nothing_runs b x s = rw (room_for_none b.quoted s.few) (rw (append-nil b.quoted.events) (refl, refl))

pub none_runs : (b b' : Kept) (time_ms : ℤ) (why : DealReason) (t : ℕ) (x : Unit {0}) → IsSound b.quoted.spec b.quoted.prices b.quoted.times b.quoted.events → closing_fill b.quoted time_ms why (item position_ticket t (open_positions b.quoted.events)) ≡ None → b' ≡ b → Runs b (act (closing_of b.quoted.spec b.quoted.prices time_ms why t) (record { events = b.quoted.events; full = false })) (Ok x) b'
none_runs b b' time_ms why t x s h e =
    rw e (subst (λ (more : List Event). Runs b (run_of b.quoted.events more) (Ok x) b) (sym (nothing_by b.quoted time_ms why (item position_ticket t (open_positions b.quoted.events)) h)) (nothing_runs b x s))
