-- What judgement accepts may be done: orders.
use Rattle.std.proofs.Common.{◌≡◌, ◌∙◌, ℕ, ◌+◌, Bool, true, false, not, cond, eqb, List, length, slice_get, Option, Some, None, ℤ, refl, subst, arith, rules}
use Rattle.std.specs.Prelude.{IfSome, nat_lt}
use Rattle.market_types.specs.declared.symbol_spec.SymbolSpec.{SymbolSpec}
use Rattle.account.specs.declared.order.Order.{Order}
use Rattle.account.specs.declared.order.OrderKind.{OrderKind}
use Rattle.account.specs.declared.order.OrderTime.{OrderTime}
use Rattle.account.specs.declared.order.OrderTime.TheVariants as time
use Rattle.account.specs.Keyed.{item, KeyIs}
use Rattle.account.specs.Orders.{order_ticket, orders_in_force}
use Rattle.account.specs.Deals.{deals}
use Rattle.account.specs.Positions.{open_positions}
use Rattle.account.specs.StopOut.{prices_at}
use Rattle.account.proofs.Found.{all_item}
use Rattle.account.proofs.Keys.{item_key}
use Rattle.order_book.specs.Book.{same_terms, time_number}
use Rattle.judgement.specs.declared.request.Request.{Request}
use Rattle.judgement.specs.declared.return_code.ReturnCode.{ReturnCode}
use Rattle.judgement.specs.Acts.{placed_order, changed_order}
use Rattle.judgement.specs.Numbers.{time_of}
use Rattle.judgement.specs.Rules.{second_of}
use Rattle.judgement.specs.Tables.{first_failing, pending_rules, modify_rules, has_terms, changes_order}
use Rattle.desk.specs.State.{Quoted}
use Rattle.desk.specs.Sound.{IsStanding, IsSound, AreQuoted}
use Rattle.desk.specs.Books.{IsPlaceable, IsChangeable}
use Rattle.desk.specs.Tickets.{last_order}
use Rattle.desk.proofs.Fits.{greater_right}
use Rattle.desk.proofs.Ready.{fresh_item, fresh_order, AllHold, all_hold, IsDealt, symbol_there, volume_of}

-- an order that is accepted may be placed
pub place_ready : (q : Quoted) (time_ms : ℤ) (place : ℕ) (kind : OrderKind) (t : OrderTime) (r : Request) → AreQuoted q.spec q.prices q.times → IsSound q.spec q.prices q.times q.events → first_failing (pending_rules (slice_get q.spec.specs place) (prices_at q.prices place) (length (orders_in_force q.events)) (second_of time_ms) r) ≡ None → IsPlaceable q (placed_order (last_order q.events + 1) time_ms place kind t r)
place_ready q time_ms place kind t r a s h =
    let rules : List (Bool × ReturnCode) = pending_rules (slice_get q.spec.specs place) (prices_at q.prices place) (length (orders_in_force q.events)) (second_of time_ms) r in
    let hold : AllHold rules = all_hold rules h in
    let v : IsDealt r.volume = volume_of q.spec.specs place r.volume s.account.specs hold.1.1.1.0 in
    record {
      standing = record {
        symbol = symbol_there q.spec.specs place r.volume hold.1.1.1.0;
        priced = hold.1.1.1.1.0;
        some = v.some;
        most = v.most;
        from = omega arith;
        ticket = greater_right (last_order q.events) (last_order q.events + 1);
      };
      fresh = fresh_order q.spec q.prices (last_order q.events) (last_order q.events + 1) (orders_in_force q.events) (omega arith) s.orders;
      apart = fresh_item q.spec q.prices q.times (last_order q.events) (length (deals q.events)) (last_order q.events + 1) (open_positions q.events) (omega arith) s.positions;
      taken = omega arith;
      few = let n : nat_lt (length (orders_in_force q.events)) 1000 ≡ true = hold.1.1.1.1.1.1.1.1.0 in grind arith;
    }

number_of : (n : ℕ) (t : OrderTime) → time_of n ≡ Some t → time_number t ≡ n
number_of n t h =
    (elim (eqb n 0) as (λ b. eqb n 0 ≡ b → cond b (Some time.Gtc) (cond (eqb n 1) (Some time.Day) (cond (eqb n 2) (Some time.Specified) (cond (eqb n 3) (Some time.SpecifiedDay) None))) ≡ Some t → time_number t ≡ n) [
      | true ↦ λ e g. let k : time.Gtc ≡ t = grind rules in subst (λ (x : OrderTime). time_number x ≡ n) k (grind arith)
      | false ↦ λ e0. (elim (eqb n 1) as (λ b. eqb n 1 ≡ b → cond b (Some time.Day) (cond (eqb n 2) (Some time.Specified) (cond (eqb n 3) (Some time.SpecifiedDay) None)) ≡ Some t → time_number t ≡ n) [
        | true ↦ λ e g. let k : time.Day ≡ t = grind rules in subst (λ (x : OrderTime). time_number x ≡ n) k (grind arith)
        | false ↦ λ e1. (elim (eqb n 2) as (λ b. eqb n 2 ≡ b → cond b (Some time.Specified) (cond (eqb n 3) (Some time.SpecifiedDay) None) ≡ Some t → time_number t ≡ n) [
          | true ↦ λ e g. let k : time.Specified ≡ t = grind rules in subst (λ (x : OrderTime). time_number x ≡ n) k (grind arith)
          | false ↦ λ e2. (elim (eqb n 3) as (λ b. eqb n 3 ≡ b → cond b (Some time.SpecifiedDay) None ≡ Some t → time_number t ≡ n) [
            | true ↦ λ e g. let k : time.SpecifiedDay ≡ t = grind rules in subst (λ (x : OrderTime). time_number x ≡ n) k (grind arith)
            | false ↦ λ e g. cc
          ]) refl
        ]) refl
      ]) refl
    ]) refl h

-- the terms of the changed order are those of the request
terms_of : (time_ms : ℤ) (t : OrderTime) (r : Request) (o : Order) → time_number t ≡ r.type_time → same_terms o (changed_order time_ms t r o) ≡ has_terms (second_of time_ms) r o
unfolding same_terms has_terms
terms_of time_ms t r o e = rw e refl

differs : (now : ℤ) (r : Request) (o : Order) → changes_order now r (Some o) ≡ true → has_terms now r o ≡ false
unfolding changes_order
differs now r o h = flipped (has_terms now r o) h
  where
    flipped : (b : Bool) → not b ≡ true → b ≡ false
    flipped true h = cc
    flipped false h = refl

-- a change that is accepted may be done
pub change_ready : (q : Quoted) (time_ms : ℤ) (t : OrderTime) (o : Order) (symbol : Option SymbolSpec) (prices : Option (ℤ × ℤ)) (r : Request) → IsSound q.spec q.prices q.times q.events → item order_ticket r.order (orders_in_force q.events) ≡ Some o → time_of r.type_time ≡ Some t → first_failing (modify_rules (Some o) symbol prices (second_of time_ms) r) ≡ None → IsChangeable q (changed_order time_ms t r o)
unfolding same_terms
change_ready q time_ms t o symbol prices r s e f h =
    let hold : AllHold (modify_rules (Some o) symbol prices (second_of time_ms) r) = all_hold (modify_rules (Some o) symbol prices (second_of time_ms) r) h in
    let k : IsStanding q.spec q.prices (last_order q.events) o = subst (λ (x : Option Order). IfSome x (IsStanding q.spec q.prices (last_order q.events))) e (all_item (IsStanding q.spec q.prices (last_order q.events)) order_ticket r.order (orders_in_force q.events) s.orders) in
    let ticket : o.ticket ≡ r.order = subst (λ (x : Option Order). KeyIs order_ticket r.order x) e (item_key order_ticket r.order (orders_in_force q.events)) in
    let same : same_terms o (changed_order time_ms t r o) ≡ false = terms_of time_ms t r o (number_of r.type_time t f) ∙ differs (second_of time_ms) r o hold.1.0 in
    record {
      symbol = k.symbol;
      changes = rw ticket (rw e (rw same refl));
    }
