-- What judgement accepts may be done.
use Rattle.std.proofs.Common.{◌≡◌, ℕ, ◌+◌, ◌≤◌, Bool, true, List, length, slice_get, Option, Some, None, ℤ, pos, refl, subst, arith, rules, is_some}
use Rattle.std.specs.Prelude.{is_ok}
use Rattle.market_types.specs.declared.symbol_spec.SymbolSpec.{SymbolSpec}
use Rattle.account.specs.declared.order.Order.{Order}
use Rattle.account.specs.declared.order.OrderKind.{OrderKind}
use Rattle.account.specs.declared.order.OrderTime.{OrderTime}
use Rattle.account.specs.declared.position.Position.{Position}
use Rattle.account.specs.Deals.{deals}
use Rattle.account.specs.Keyed.{item}
use Rattle.account.specs.Orders.{order_ticket, orders_in_force}
use Rattle.account.specs.Positions.{position_ticket, open_positions}
use Rattle.account.specs.StopOut.{prices_at}
use Rattle.positions.specs.declared.fill.Fill.{Fill}
use Rattle.positions.specs.CloseBy.{closed_both}
use Rattle.judgement.specs.declared.act.Act.{Act}
use Rattle.judgement.specs.declared.act.Act.TheVariants as act
use Rattle.judgement.specs.declared.request.Request.{Request}
use Rattle.judgement.specs.declared.return_code.ReturnCode.{ReturnCode}
use Rattle.judgement.specs.declared.words.Action.{Action}
use Rattle.judgement.specs.declared.words.Action.TheVariants as action
use Rattle.judgement.specs.Acts.{fill_of, placed_order, changed_order, deal_act, pending_act, modify_act, sltp_act, close_by_act, act_by}
use Rattle.judgement.specs.Accept.{has_money_if}
use Rattle.judgement.specs.Judge.{place_of, order_of, stops_target, refusal_by}
use Rattle.judgement.specs.Numbers.{action_of, pending_kind_of, time_of}
use Rattle.judgement.specs.Rules.{second_of}
use Rattle.judgement.specs.Tables.{first_failing, deal_rules, pending_rules, modify_rules, close_by_rules, oppose}
use Rattle.desk.specs.State.{Quoted, journal_of}
use Rattle.desk.specs.Sound.{IsSound, AreQuoted}
use Rattle.desk.specs.Books.{IsPairable}
use Rattle.desk.specs.Requests.{IsReady}
use Rattle.desk.specs.Requests as own
use Rattle.desk.specs.Tickets.{last_order, next_of}
use Rattle.desk.proofs.Ready.{AllHold, all_hold, deal_ready}
use Rattle.desk.proofs.Changes.{place_ready, change_ready}

-- deals
deal_case : (q : Quoted) (time_ms : ℤ) (place : ℕ) (pair : Option (ℤ × ℤ)) (money : Bool) (r : Request) (todo : Act) → AreQuoted q.spec q.prices q.times → IsSound q.spec q.prices q.times q.events → prices_at q.prices place ≡ pair → first_failing (deal_rules q.spec.hedging place (slice_get q.spec.specs place) (prices_at q.prices place) (item position_ticket r.position (open_positions q.events)) money r) ≡ None → deal_act (last_order q.events + 1) (length (deals q.events) + 1) time_ms place pair r ≡ Some todo → IsReady q todo
deal_case q time_ms place None money r todo a s e h t = cc
deal_case q time_ms place (Some pair) money r todo a s e h t =
    let k : act.Deal (fill_of (last_order q.events + 1) (length (deals q.events) + 1) time_ms place pair r) ≡ todo = grind rules in
    subst (λ (x : Act). IsReady q x) k (deal_ready q (length (deals q.events) + 1) time_ms place pair money r a s e h)

-- pending orders
pending_case : (q : Quoted) (time_ms : ℤ) (place : ℕ) (kind : Option OrderKind) (t : Option OrderTime) (r : Request) (todo : Act) → AreQuoted q.spec q.prices q.times → IsSound q.spec q.prices q.times q.events → first_failing (pending_rules (slice_get q.spec.specs place) (prices_at q.prices place) (length (orders_in_force q.events)) (second_of time_ms) r) ≡ None → pending_act (last_order q.events + 1) time_ms place kind t r ≡ Some todo → IsReady q todo
pending_case q time_ms place None t r todo a s h e = cc
pending_case q time_ms place (Some kind) None r todo a s h e = cc
pending_case q time_ms place (Some kind) (Some t) r todo a s h e =
    let k : act.Place (placed_order (last_order q.events + 1) time_ms place kind t r) ≡ todo = grind rules in
    subst (λ (x : Act). IsReady q x) k (place_ready q time_ms place kind t r a s h)

-- changes of orders
modify_case : (q : Quoted) (time_ms : ℤ) (t : Option OrderTime) (o : Option Order) (symbol : Option SymbolSpec) (prices : Option (ℤ × ℤ)) (r : Request) (todo : Act) → IsSound q.spec q.prices q.times q.events → item order_ticket r.order (orders_in_force q.events) ≡ o → time_of r.type_time ≡ t → first_failing (modify_rules o symbol prices (second_of time_ms) r) ≡ None → modify_act time_ms t o r ≡ Some todo → IsReady q todo
modify_case q time_ms None o symbol prices r todo s e f h g = cc
modify_case q time_ms (Some t) None symbol prices r todo s e f h g = cc
modify_case q time_ms (Some t) (Some o) symbol prices r todo s e f h g =
    let k : act.Change (changed_order time_ms t r o) ≡ todo = grind rules in
    subst (λ (x : Act). IsReady q x) k (change_ready q time_ms t o symbol prices r s e f h)

-- changes of stops
stops_case : (q : Quoted) (p : Option Position) (r : Request) (todo : Act) → sltp_act p r ≡ Some todo → IsReady q todo
stops_case q None r todo g = cc
stops_case q (Some p) r todo g = let k : act.SetStops p.ticket r.sl r.tp ≡ todo = grind rules in subst (λ (x : Act). IsReady q x) k tt

-- close-bys
both_open : (specs : List SymbolSpec) (at : Fill) (one other : Option Position) → is_some one ≡ true → is_some other ≡ true → oppose one other ≡ true → is_ok (closed_both specs at one other) ≡ true
unfolding oppose
both_open specs at None o h k l = cc
both_open specs at (Some p) None h k l = cc
both_open specs at (Some p) (Some r) h k l = rw l refl

pair_ready : (q : Quoted) (time_ms : ℤ) (r : Request) → first_failing (close_by_rules q.spec.hedging (item position_ticket r.position (open_positions q.events)) (item position_ticket r.position_by (open_positions q.events))) ≡ None → (at : Fill) → at.deal ≡ length (deals q.events) + 1 → at.order ≤ last_order q.events + 1 → IsPairable q r.position r.position_by at
pair_ready q time_ms r h at d o =
    let rules : List (Bool × ReturnCode) = close_by_rules q.spec.hedging (item position_ticket r.position (open_positions q.events)) (item position_ticket r.position_by (open_positions q.events)) in
    let hold : AllHold rules = all_hold rules h in
    record {
      hedging = hold.0;
      accepted = both_open q.spec.specs at (item position_ticket r.position (open_positions q.events)) (item position_ticket r.position_by (open_positions q.events)) hold.1.0 hold.1.1.0 hold.1.1.1.0;
      deal = d;
      taken = o;
    }

pair_case : (q : Quoted) (time_ms : ℤ) (r : Request) (todo : Act) → first_failing (close_by_rules q.spec.hedging (item position_ticket r.position (open_positions q.events)) (item position_ticket r.position_by (open_positions q.events))) ≡ None → Some (close_by_act (last_order q.events + 1) (length (deals q.events) + 1) time_ms r) ≡ Some todo → IsReady q todo
pair_case q time_ms r todo h g =
    let k : close_by_act (last_order q.events + 1) (length (deals q.events) + 1) time_ms r ≡ todo = grind rules in
    subst (λ (x : Act). IsReady q x) k (pair_ready q time_ms r h (fill_of (last_order q.events + 1) (length (deals q.events) + 1) time_ms 0 (pos 0, pos 0) r) refl (omega arith))

remove_case : (q : Quoted) (t : ℕ) (todo : Act) → Some (act.Remove t) ≡ Some todo → IsReady q todo
remove_case q t todo g = let k : act.Remove t ≡ todo = grind rules in subst (λ (x : Act). IsReady q x) k tt

ready_by : (q : Quoted) (time_ms : ℤ) (money : Bool) (r : Request) (todo : Act) (a : Option Action) → AreQuoted q.spec q.prices q.times → IsSound q.spec q.prices q.times q.events → refusal_by a q.spec (orders_in_force q.events) (open_positions q.events) q.prices time_ms money r ≡ None → act_by a q.spec (orders_in_force q.events) (open_positions q.events) q.prices time_ms (next_of q.events) r ≡ Some todo → IsReady q todo
ready_by q time_ms money r todo None a s h g = cc
ready_by q time_ms money r todo (Some action.Deal) a s h g = deal_case q time_ms (place_of q.spec.specs r.symbol) (prices_at q.prices (place_of q.spec.specs r.symbol)) money r todo a s refl h g
ready_by q time_ms money r todo (Some action.Pending) a s h g = pending_case q time_ms (place_of q.spec.specs r.symbol) (pending_kind_of r.kind) (time_of r.type_time) r todo a s h g
ready_by q time_ms money r todo (Some action.Sltp) a s h g = stops_case q (stops_target q.spec.hedging (open_positions q.events) (place_of q.spec.specs r.symbol) r) r todo g
ready_by q time_ms money r todo (Some action.Modify) a s h g = modify_case q time_ms (time_of r.type_time) (order_of (orders_in_force q.events) r) _ _ r todo s refl refl h g
ready_by q time_ms money r todo (Some action.Remove) a s h g = remove_case q r.order todo g
ready_by q time_ms money r todo (Some action.CloseBy) a s h g = pair_case q time_ms r todo h g

-- what is to be done for a request that is not refused may be done
pub ready : (q : Quoted) (time_ms : ℤ) (r : Request) (todo : Act) → AreQuoted q.spec q.prices q.times → IsSound q.spec q.prices q.times q.events → own.code_for q time_ms r ≡ None → own.todo_of q time_ms r ≡ Some todo → IsReady q todo
ready q time_ms r todo a s h g = ready_by q time_ms (has_money_if (journal_of q) q.prices (own.todo_of q time_ms r)) r todo (action_of r.action) a s h g
