-- The end of a pass: orders go one after another, and acts go on until one finds no room.
use Rattle.std.proofs.Common.{◌≡◌, ◌∙◌, ℕ, ◌<◌, ◌++◌, append-nil, append_assoc, Bool, true, false, ltb, List, [], ◌∷◌, length, map, slice_get, Option, Some, None, Result, Ok, Err, ℤ, refl, ap, sym, subst, arith, rules}
use Rattle.std.specs.Prelude.{is_err}
use Rattle.account.specs.declared.account_spec.AccountSpec.{AccountSpec}
use Rattle.account.specs.declared.deal.DealReason.{DealReason}
use Rattle.account.specs.declared.deal.DealReason.TheVariants as reason
use Rattle.account.specs.declared.order.Order.{Order}
use Rattle.account.specs.declared.event.Event.{Event}
use Rattle.account.specs.declared.event.Event.TheVariants.{Removed}
use Rattle.account.specs.declared.event.RemovalCause.TheVariants as cause
use Rattle.account.specs.Keyed.{put, Rising}
use Rattle.account.specs.Orders.{order_ticket, orders_after, orders_in_force}
use Rattle.account.specs.Positions.{position_ticket, open_positions}
use Rattle.account.specs.StopOut.{PriceList}
use Rattle.account.proofs.Places.{far_above, far_below, numbers}
use Rattle.desk.specs.declared.fault.DeskFault.{DeskFault}
use Rattle.desk.specs.declared.fault.DeskFault.TheVariants as desk_fault
use Rattle.desk.specs.Books.{Kept, gained}
use Rattle.desk.specs.Effect.{Run, act, acts, closing, closing_of, last_time, removals}
use Rattle.desk.specs.Runs.{Runs, after_run}
use Rattle.desk.proofs.Entered.{orders_more}

-- without its first order the rest of the book is left
not_self : (t : ℕ) → ltb t t ≡ false
not_self t = grind arith

first_put : (o : Order) (os : List Order) → Rising order_ticket (o ∷ os) → put order_ticket o.ticket None (o ∷ os) ≡ os
first_put o os r =
    rw (not_self o.ticket) (rw (far_below ltb numbers order_ticket o.ticket os r.0) (far_above ltb order_ticket o.ticket os r.0))

-- what is left of the book, and of its removals
record IsLess (os left : List Order) (o : Order) : Type 0 where
  removed : removals os ≡ Removed o.ticket cause.Ended ∷ removals left
  less : length left < length os

less_by : (os : List Order) (o : Order) → Rising order_ticket os → slice_get os 0 ≡ Some o → IsLess os (orders_after os (Removed o.ticket cause.Ended)) o
less_by [] o r h = absurd (cc)
less_by (x ∷ xs) o r h =
    let e : x ≡ o = grind rules in
    subst (λ (y : Order). IsLess (x ∷ xs) (orders_after (x ∷ xs) (Removed y.ticket cause.Ended)) y) e (
    subst (λ (left : List Order). IsLess (x ∷ xs) left x) (sym (first_put x xs r)) (record { removed = refl; less = omega arith }))

less_now : (es : List Event) (o : Order) → Rising order_ticket (orders_in_force es) → slice_get (orders_in_force es) 0 ≡ Some o → IsLess (orders_in_force es) (orders_in_force (es ++ Removed o.ticket cause.Ended ∷ [])) o
less_now es o r h = rw (orders_more es (Removed o.ticket cause.Ended)) (less_by (orders_in_force es) o r h)

pub first_gone : (es es' whole : List Event) (o : Order) → Rising order_ticket (orders_in_force es) → slice_get (orders_in_force es) 0 ≡ Some o → es' ≡ es ++ Removed o.ticket cause.Ended ∷ [] → es ++ removals (orders_in_force es) ≡ whole → es' ++ removals (orders_in_force es') ≡ whole
first_gone es es' whole o r h n e =
    rw n (append_assoc es (Removed o.ticket cause.Ended ∷ []) (removals (orders_in_force (es ++ Removed o.ticket cause.Ended ∷ []))) ∙ ap (λ (xs : List Event). es ++ xs) (sym (less_now es o r h).removed) ∙ e)

pub first_less : (es es' : List Event) (o : Order) → Rising order_ticket (orders_in_force es) → slice_get (orders_in_force es) 0 ≡ Some o → es' ≡ es ++ Removed o.ticket cause.Ended ∷ [] → length (orders_in_force es') < length (orders_in_force es)
first_less es es' o r h n = rw n ((less_now es o r h).less)

none_by : (os : List Order) → slice_get os 0 ≡ None → removals os ≡ []
none_by [] h = refl
none_by (o ∷ os) h = absurd (cc)

pub none_left : (es whole : List Event) → slice_get (orders_in_force es) 0 ≡ None → es ++ removals (orders_in_force es) ≡ whole → es ≡ whole
none_left es whole h e = sym (append-nil es) ∙ ap (λ (xs : List Event). es ++ xs) (sym (none_by (orders_in_force es) h)) ∙ e

-- a run that is full stays
pub act_full : (adds : List Event → List Event) (run : Run) → run.full ≡ true → act adds run ≡ run
act_full adds run h = rw h refl

pub acts_full : {X : Type 0} (adds : X → List Event → List Event) (run : Run) (xs : List X) → run.full ≡ true → acts adds run xs ≡ run
acts_full adds run [] h = refl
acts_full {X} adds run (x ∷ xs) h = ap (λ (r : Run). acts adds r xs) (act_full (adds x) run h) ∙ acts_full adds run xs h

-- what a run makes of books is known by their account, prices and times
pub record IsLike (b b' : Kept) : Type 0 where
  pub spec : b.quoted.spec ≡ b'.quoted.spec
  pub prices : b.quoted.prices ≡ b'.quoted.prices
  pub times : b.quoted.times ≡ b'.quoted.times
  pub broken : b.broken ≡ b'.broken

abbrev made : AccountSpec → PriceList → List (Option ℤ) → Bool → List Event → Kept
made spec prices times broken es = record { quoted = record { spec = spec; events = es; prices = prices; times = times }; broken = broken }

like_after : (b b' : Kept) (run : Run) → IsLike b b' → after_run run b ≡ after_run run b'
like_after b b' run h =
    ap (λ (s : AccountSpec). made s b.quoted.prices b.quoted.times b.broken run.events) h.spec
    ∙ ap (λ (p : PriceList). made b'.quoted.spec p b.quoted.times b.broken run.events) h.prices
    ∙ ap (λ (t : List (Option ℤ)). made b'.quoted.spec b'.quoted.prices t b.broken run.events) h.times
    ∙ ap (λ (x : Bool). made b'.quoted.spec b'.quoted.prices b'.quoted.times x run.events) h.broken

pub runs_like : {A : Type 0} (b b' : Kept) (run : Run) (r : Result A DeskFault) (c : Kept) → IsLike b b' → Runs b run r c → Runs b' run r c
runs_like b b' run (Ok x) c h k = (k.0, k.1 ∙ like_after b b' run h)
runs_like b b' run (Err desk_fault.DealsExhausted) c h k = (k.0, k.1 ∙ like_after b b' run h)
runs_like b b' run (Err desk_fault.RequestsExhausted) c h k = k
runs_like b b' run (Err desk_fault.OutOfMemory) c h k = k

-- books that are like others are like what a run leaves of those
pub after_like : (b b' c : Kept) (run : Run) → b' ≡ after_run run b → IsLike b c → IsLike b' c
after_like b b' c run e h = rw e (record { spec = h.spec; prices = h.prices; times = h.times; broken = h.broken })

-- the run of books so far
abbrev pub so_far : Kept → Run
so_far b = record { events = b.quoted.events; full = false }

-- books that gained events, and those that are like others and have further events
pub gained_like : (b b' c : Kept) (more : List Event) → b' ≡ gained more b → IsLike b c → IsLike b' c
gained_like b b' c more e h = rw e (record { spec = h.spec; prices = h.prices; times = h.times; broken = h.broken })

pub like_gained : (b c : Kept) (more : List Event) → IsLike b c → b.quoted.events ≡ c.quoted.events ++ more → b ≡ gained more c
like_gained b c more h e =
    like_after b c (so_far b) h
    ∙ ap (λ (es : List Event). made c.quoted.spec c.quoted.prices c.quoted.times c.broken es) e

not_full : (run : Run) → run.full ≡ false → run ≡ record { events = run.events; full = false }
not_full run h = ap (λ (b : Bool). the_run run.events b) h
  where
    the_run : List Event → Bool → Run
    the_run es b = record { events = es; full = b }

pub run_left : (b b' : Kept) (run : Run) → run.full ≡ false → b' ≡ after_run run b → run ≡ so_far b'
run_left b b' run f e = not_full run f ∙ ap (λ (c : Kept). so_far c) (sym e)

-- what a call that went well left
pub left_ok : (b b' : Kept) (run : Run) (r : Result (Unit {0}) DeskFault) → is_err r ≡ false → Runs b run r b' → (run.full ≡ false) × (b' ≡ after_run run b)
left_ok b b' run (Ok x) e h = h
left_ok b b' run (Err x) e h = absurd (cc)

-- after an act the others are left
pub acts_go_on : {X : Type 0} (adds : X → List Event → List Event) (b b' : Kept) (x : X) (rest others : List X) (whole : Run) → rest ≡ x ∷ others → acts adds (so_far b) rest ≡ whole → (act (adds x) (so_far b)).full ≡ false → b' ≡ after_run (act (adds x) (so_far b)) b → acts adds (so_far b') others ≡ whole
acts_go_on {X} adds b b' x rest others whole r e f h =
    ap (λ (run : Run). acts adds run others) (sym (run_left b b' (act (adds x) (so_far b)) f h))
    ∙ ap (λ (xs : List X). acts adds (so_far b) xs) (sym r)
    ∙ e

-- an act that finds no room is the last
pub acts_stop : {X : Type 0} (adds : X → List Event → List Event) (b c b' : Kept) (x : X) (rest others : List X) (whole : Run) (r : Result (Unit {0}) DeskFault) → rest ≡ x ∷ others → acts adds (so_far b) rest ≡ whole → IsLike b c → is_err r ≡ true → Runs b (act (adds x) (so_far b)) r b' → Runs c whole r b'
acts_stop adds b c b' x rest others whole (Ok done) l e k f h = absurd (cc)
acts_stop {X} adds b c b' x rest others whole (Err desk_fault.DealsExhausted) l e k f h =
    let same : act (adds x) (so_far b) ≡ whole = sym (acts_full adds (act (adds x) (so_far b)) others h.0) ∙ ap (λ (xs : List X). acts adds (so_far b) xs) (sym l) ∙ e in
    subst (λ (run : Run). Runs {A = Unit {0}} c run (Err desk_fault.DealsExhausted) b') same (runs_like {A = Unit {0}} b c (act (adds x) (so_far b)) (Err desk_fault.DealsExhausted) b' k h)
acts_stop adds b c b' x rest others whole (Err desk_fault.RequestsExhausted) l e k f h = absurd h
acts_stop adds b c b' x rest others whole (Err desk_fault.OutOfMemory) l e k f h = h

-- no act is left
pub acts_end : {X : Type 0} (adds : X → List Event → List Event) (b c : Kept) (rest : List X) (whole : Run) (done : Unit {0}) → rest ≡ [] → acts adds (so_far b) rest ≡ whole → IsLike b c → Runs c whole (Ok done) b
acts_end {X} adds b c rest whole done r e l =
    let same : so_far b ≡ whole = ap (λ (xs : List X). acts adds (so_far b) xs) (sym r) ∙ e in
    subst (λ (run : Run). Runs c run (Ok done) b) same (refl, like_after b c (so_far b) l)

-- closing a position of books that are like others
pub closing_like : (b c b' : Kept) (time_ms : ℤ) (why : DealReason) (t : ℕ) (r : Result (Unit {0}) DeskFault) → IsLike b c → Runs b (act (closing_of b.quoted.spec b.quoted.prices time_ms why t) (so_far b)) r b' → Runs b (act (closing_of c.quoted.spec c.quoted.prices time_ms why t) (so_far b)) r b'
closing_like b c b' time_ms why t r l h =
    let same : act (closing_of b.quoted.spec b.quoted.prices time_ms why t) (so_far b) ≡ act (closing_of c.quoted.spec c.quoted.prices time_ms why t) (so_far b) =
    ap (λ (s : AccountSpec). act (closing_of s b.quoted.prices time_ms why t) (so_far b)) l.spec
    ∙ ap (λ (p : PriceList). act (closing_of c.quoted.spec p time_ms why t) (so_far b)) l.prices in
    subst (λ (run : Run). Runs b run r b') same h

-- the removals and then the closings are the whole end
pub ended : (b b1 b2 : Kept) (time_ms : ℤ) (tickets : List ℕ) (r : Result (Unit {0}) DeskFault) → time_ms ≡ last_time b.quoted.times → tickets ≡ map position_ticket (open_positions b.quoted.events) → b1 ≡ gained (removals (orders_in_force b.quoted.events)) b → Runs b1 (acts (closing_of b1.quoted.spec b1.quoted.prices time_ms reason.Client) (so_far b1) tickets) r b2 → Runs b (closing b.quoted) r b2
ended b b1 b2 time_ms tickets r e f g h =
    let begun : Kept = gained (removals (orders_in_force b.quoted.events)) b in
    let timed : Runs b1 (acts (closing_of b1.quoted.spec b1.quoted.prices (last_time b.quoted.times) reason.Client) (so_far b1) tickets) r b2 = subst (λ (z : ℤ). Runs b1 (acts (closing_of b1.quoted.spec b1.quoted.prices z reason.Client) (so_far b1) tickets) r b2) e h in
    let listed : Runs b1 (acts (closing_of b1.quoted.spec b1.quoted.prices (last_time b.quoted.times) reason.Client) (so_far b1) (map position_ticket (open_positions b.quoted.events))) r b2 = subst (λ (ts : List ℕ). Runs b1 (acts (closing_of b1.quoted.spec b1.quoted.prices (last_time b.quoted.times) reason.Client) (so_far b1) ts) r b2) f timed in
    runs_like begun b (closing b.quoted) r b2 (record { spec = refl; prices = refl; times = refl; broken = refl })
    (subst (λ (k : Kept). Runs k (acts (closing_of k.quoted.spec k.quoted.prices (last_time b.quoted.times) reason.Client) (so_far k) (map position_ticket (open_positions b.quoted.events))) r b2) g listed)
