-- A request takes one order ticket at most.
use Rattle.std.proofs.Common.{◌≡◌, ℕ, ◌+◌, ◌≤◌, ◌++◌, append-nil, true, false, cond, [], ◌∷◌, Option, Some, None, Ok, Err, ℤ, refl, ap, arith}
use Rattle.std.specs.Prelude.{is_ok}
use Rattle.std.proofs.lemmas.List.Sums.{fold-append}
use Rattle.account.specs.declared.position.Position.{Position}
use Rattle.account.specs.declared.event.Event.{Event}
use Rattle.account.specs.declared.event.Event.TheVariants.{Placed, Modified, Removed, Stops}
use Rattle.account.specs.Positions.{open_positions}
use Rattle.positions.specs.declared.fill.Fill.{Fill}
use Rattle.positions.specs.declared.fill.FillFault.TheVariants as fault
use Rattle.account.specs.Keyed.{item}
use Rattle.account.specs.Positions.{position_ticket}
use Rattle.positions.specs.CloseBy.{are_opposite, first_deal, second_deal, both_events, closed_both}
use Rattle.judgement.specs.declared.act.Act.{Act}
use Rattle.judgement.specs.declared.act.Act.TheVariants as act
use Rattle.judgement.specs.declared.request.Request.{Request}
use Rattle.judgement.specs.declared.return_code.ReturnCode.{ReturnCode}
use Rattle.desk.specs.Books.{fill_events, IsFillable, IsPairable}
use Rattle.desk.specs.Requests.{Outcome, dealt_outcome, outcome_of, outcome_by, code_for, todo_of, judged, IsReady}
use Rattle.desk.specs.Sound.{IsSound, AreQuoted}
use Rattle.desk.specs.State.{Quoted}
use Rattle.desk.specs.Tickets.{greater_number, last_after, last_order, order_of_event}
use Rattle.desk.proofs.Entered.{last_more}
use Rattle.desk.proofs.Judged.{ready}
use Rattle.desk.proofs.Outcomes.{deal_outcome}
use Rattle.desk.proofs.Stepping.{filled_last}

greater_le : (a b : ℕ) → b ≤ a + 1 → greater_number a b ≤ a + 1
unfolding greater_number
greater_le a b h = grind (arith, h)

none_taken : (q : Quoted) → last_order (q.events ++ []) ≤ last_order q.events + 1
none_taken q = rw (append-nil q.events) (omega arith)

one_taken : (q : Quoted) (e : Event) → order_of_event e ≤ last_order q.events + 1 → last_order (q.events ++ e ∷ []) ≤ last_order q.events + 1
one_taken q e h = rw (last_more q.events e) (greater_le (last_order q.events) (order_of_event e) h)

deal_taken : (q : Quoted) (f : Fill) → IsFillable q f → last_order (q.events ++ (outcome_of q.spec (open_positions q.events) (act.Deal f)).events) ≤ last_order q.events + 1
deal_taken q f h =
    let e : (outcome_of q.spec (open_positions q.events) (act.Deal f)).events ≡ fill_events f q = ap (λ (o : Outcome). o.events) (deal_outcome f q h) in
    rw e (rw (filled_last q f) (greater_le (last_order q.events) f.order h.taken))

twice : (a b : ℕ) → b ≤ a + 1 → greater_number (greater_number a b) b ≤ a + 1
unfolding greater_number
twice a b h = grind (arith, h)

both_taken : (q : Quoted) (at : Fill) (p r : Position) → at.order ≤ last_order q.events + 1 → last_order (q.events ++ both_events (first_deal q.spec.specs at p r) (second_deal q.spec.specs at p r)) ≤ last_order q.events + 1
both_taken q at p r h =
    rw (fold-append last_after 0 q.events (both_events (first_deal q.spec.specs at p r) (second_deal q.spec.specs at p r))) (twice (last_order q.events) at.order h)

pair_taken_by : (q : Quoted) (at : Fill) (one other : Option Position) → at.order ≤ last_order q.events + 1 → is_ok (closed_both q.spec.specs at one other) ≡ true → last_order (q.events ++ (dealt_outcome at.order (closed_both q.spec.specs at one other)).events) ≤ last_order q.events + 1
pair_taken_by q at None other h k = cc
pair_taken_by q at (Some p) None h k = cc
pair_taken_by q at (Some p) (Some r) h k =
    elim (are_opposite p r) as (λ b. last_order (q.events ++ (dealt_outcome at.order (cond b (Ok (both_events (first_deal q.spec.specs at p r) (second_deal q.spec.specs at p r))) (Err fault.WrongSide))).events) ≤ last_order q.events + 1) [
      | true ↦ both_taken q at p r h
      | false ↦ none_taken q
    ]

pair_taken : (q : Quoted) (one other : ℕ) (at : Fill) → IsPairable q one other at → last_order (q.events ++ (outcome_of q.spec (open_positions q.events) (act.CloseBy one other at)).events) ≤ last_order q.events + 1
pair_taken q one other at h = rw h.hedging (pair_taken_by q at (item position_ticket one (open_positions q.events)) (item position_ticket other (open_positions q.events)) h.taken h.accepted)

act_taken : (q : Quoted) (a : Act) → IsReady q a → last_order (q.events ++ (outcome_of q.spec (open_positions q.events) a).events) ≤ last_order q.events + 1
act_taken q (act.Deal f) h = deal_taken q f h
act_taken q (act.Place o) h = one_taken q (Placed o) h.taken
act_taken q (act.Change o) h = one_taken q (Modified o) (omega arith)
act_taken q (act.Remove t) h = one_taken q (Removed t _) (omega arith)
act_taken q (act.SetStops t sl tp) h = one_taken q (Stops t sl tp) (omega arith)
act_taken q (act.CloseBy one other at) h = pair_taken q one other at h

by_taken : (q : Quoted) (time_ms : ℤ) (r : Request) (c : Option ReturnCode) (t : Option Act) → AreQuoted q.spec q.prices q.times → IsSound q.spec q.prices q.times q.events → code_for q time_ms r ≡ c → todo_of q time_ms r ≡ t → last_order (q.events ++ (outcome_by q c t).events) ≤ last_order q.events + 1
by_taken q time_ms r (Some c) t a s h g = none_taken q
by_taken q time_ms r None None a s h g = none_taken q
by_taken q time_ms r None (Some t) a s h g = act_taken q t (ready q time_ms r t a s h g)

-- a request takes one ticket at most
pub judged_last : (q : Quoted) (time_ms : ℤ) (r : Request) → AreQuoted q.spec q.prices q.times → IsSound q.spec q.prices q.times q.events → last_order (q.events ++ (judged q time_ms r).events) ≤ last_order q.events + 1
judged_last q time_ms r a s = by_taken q time_ms r (code_for q time_ms r) (todo_of q time_ms r) a s refl refl
