-- Close-bys in the books.
use Rattle.std.proofs.Common.{◌≡◌, ◌∙◌, ℕ, ◌+◌, ◌^◌, ◌<◌, ◌≤◌, ◌++◌, Bool, true, false, cond, List, [], length, fold, Option, Some, None, Result, Ok, Err, refl, ap, sym, subst, arith}
use Rattle.std.specs.Prelude.{is_ok, is_err, nat_le}
use Rattle.std.proofs.lemmas.List.Sums.{fold-append}
use Rattle.market_types.specs.declared.symbol_spec.SymbolSpec.{SymbolSpec}
use Rattle.account.specs.declared.order.Order.{Order}
use Rattle.account.specs.declared.position.Position.{Position}
use Rattle.account.specs.declared.event.Event.{Event}
use Rattle.account.specs.Deals.{deals}
use Rattle.account.specs.Keyed.{item}
use Rattle.account.specs.Orders.{orders_after, orders_in_force}
use Rattle.account.specs.Positions.{position_ticket, positions_after, open_positions}
use Rattle.positions.specs.declared.fill.Fill.{Fill}
use Rattle.positions.specs.declared.fill.FillFault.{FillFault}
use Rattle.positions.specs.declared.fill.FillFault.TheVariants as fault
use Rattle.positions.specs.Fills.{Leaves}
use Rattle.positions.specs.CloseBy.{are_opposite, first_deal, second_deal, both_events, closed_both, closed_by}
use Rattle.judgement.specs.declared.request.Answer.{Answer}
use Rattle.desk.specs.declared.fault.DeskFault.TheVariants as desk_fault
use Rattle.desk.specs.Books.{Kept, gained, with_more, IsRuleOf, IsInStep, IsPairable, pair_events}
use Rattle.positions.specs.Money.{added_by}
use Rattle.desk.specs.Requests.{dealt_outcome, pair_answer, Answers}
use Rattle.desk.specs.Sound.{IsSound, AreQuoted, MayFollow}
use Rattle.desk.specs.State.{Quoted, have_room}
use Rattle.desk.specs.Tickets.{greater_number, last_after, last_order}
use Rattle.desk.proofs.Filling.{left_ok}
use Rattle.desk.proofs.Pairs.{pair_follows}

-- two positions that close each other
record AreBoth (specs : List SymbolSpec) (at : Fill) (one other : Option Position) : Type 0 where
  p : Position
  r : Position
  first : one ≡ Some p
  second : other ≡ Some r
  opposite : are_opposite p r ≡ true
  closed : closed_both specs at one other ≡ Ok (both_events (first_deal specs at p r) (second_deal specs at p r))

both_of : (specs : List SymbolSpec) (at : Fill) (one other : Option Position) → is_ok (closed_both specs at one other) ≡ true → AreBoth specs at one other
both_of specs at None other h = cc
both_of specs at (Some p) None h = cc
both_of specs at (Some p) (Some r) h =
    (elim (are_opposite p r) as (λ b. are_opposite p r ≡ b → is_ok (cond b (Ok (both_events (first_deal specs at p r) (second_deal specs at p r))) (Err fault.WrongSide)) ≡ true → AreBoth specs at (Some p) (Some r)) [
      | true ↦ λ e g. record { p = p; r = r; first = refl; second = refl; opposite = e; closed = rw e refl }
      | false ↦ λ e g. cc
    ]) refl h

both : (q : Quoted) (one other : ℕ) (at : Fill) → IsPairable q one other at → AreBoth q.spec.specs at (item position_ticket one (open_positions q.events)) (item position_ticket other (open_positions q.events))
both q one other at h = both_of q.spec.specs at (item position_ticket one (open_positions q.events)) (item position_ticket other (open_positions q.events)) h.accepted

hedged : (hedging : Bool) (specs : List SymbolSpec) (ps : List Position) (one other : ℕ) (at : Fill) → hedging ≡ true → closed_by hedging specs ps one other at ≡ closed_both specs at (item position_ticket one ps) (item position_ticket other ps)
hedged true specs ps one other at h = refl
hedged false specs ps one other at h = cc

closed_is : (q : Quoted) (one other : ℕ) (at : Fill) → (h : IsPairable q one other at) → closed_by q.spec.hedging q.spec.specs (open_positions q.events) one other at ≡ Ok (both_events (first_deal q.spec.specs at (both q one other at h).p (both q one other at h).r) (second_deal q.spec.specs at (both q one other at h).p (both q one other at h).r))
closed_is q one other at h = hedged q.spec.hedging q.spec.specs (open_positions q.events) one other at h.hedging ∙ (both q one other at h).closed

events_are : (q : Quoted) (one other : ℕ) (at : Fill) → (h : IsPairable q one other at) → pair_events one other at q ≡ both_events (first_deal q.spec.specs at (both q one other at h).p (both q one other at h).r) (second_deal q.spec.specs at (both q one other at h).p (both q one other at h).r)
events_are q one other at h = ap added_by (closed_is q one other at h)

-- the number of its first deal
pub pair_deal : (q : Quoted) (one other : ℕ) (at : Fill) → length (deals q.events) + 1 < 50000 → IsPairable q one other at → at.deal < 2 ^ 63
pair_deal q one other at l h = omega (arith, l, h.deal)

answered : (hedging : Bool) (specs : List SymbolSpec) (ps : List Position) (q : Quoted) (one other : ℕ) (at : Fill) → IsRuleOf hedging specs ps q → IsPairable q one other at → closed_by hedging specs ps one other at ≡ Ok (pair_events one other at q)
answered hedging specs ps q one other at r h = rw r.kind (rw r.symbols (rw r.positions (closed_is q one other at h ∙ ap (λ (es : List Event). Ok es) (sym (events_are q one other at h)))))

-- the events that it hands out
pub out_is : {X : Type 0} (hedging : Bool) (specs : List SymbolSpec) (ps ps' : List Position) (q : Quoted) (one other : ℕ) (at : Fill) (r : Result X FillFault) (out out' : List Event) → IsRuleOf hedging specs ps q → IsPairable q one other at → is_err r ≡ false → out ≡ [] → Leaves (closed_by hedging specs ps one other at) r ps ps' out out' → (out' ≡ pair_events one other at q) × (ps' ≡ fold positions_after ps (pair_events one other at q))
out_is {X} hedging specs ps ps' q one other at r out out' rule h e n l =
    let m : Leaves (Ok (pair_events one other at q)) r ps ps' out out' = subst (λ (a : Result (List Event) FillFault). Leaves a r ps ps' out out') (answered hedging specs ps q one other at rule h) l in
    let k : (out' ≡ out ++ pair_events one other at q) × (ps' ≡ fold positions_after ps (pair_events one other at q)) = left_ok r (pair_events one other at q) ps ps' out out' e m in
    (k.0 ∙ ap (λ (x : List Event). x ++ pair_events one other at q) n, k.1)

pub out_follows : (q : Quoted) (one other : ℕ) (at : Fill) (out : List Event) → AreQuoted q.spec q.prices q.times → IsSound q.spec q.prices q.times q.events → length (deals q.events) + 1 < 50000 → IsPairable q one other at → out ≡ pair_events one other at q → MayFollow q.spec q.prices q.times q.events out
out_follows q one other at out a s l h e =
    let x : AreBoth q.spec.specs at (item position_ticket one (open_positions q.events)) (item position_ticket other (open_positions q.events)) = both q one other at h in
    rw e (rw (events_are q one other at h) (pair_follows q.spec q.prices q.times q.events at one other x.p x.r a s l x.first x.second x.opposite))

pub goes_on : (hedging hedging' : Bool) (specs specs' : List SymbolSpec) (ps ps' : List Position) (q q' : Quoted) (es : List Event) → IsRuleOf hedging specs ps q → hedging' ≡ hedging → specs' ≡ specs → ps' ≡ fold positions_after ps es → q' ≡ with_more es q → IsRuleOf hedging' specs' ps' q'
goes_on hedging hedging' specs specs' ps ps' q q' es r k s p e =
    rw e (record {
      kind = k ∙ r.kind;
      symbols = s ∙ r.symbols;
      positions = p ∙ ap (λ (xs : List Position). fold positions_after xs es) r.positions ∙ sym (fold-append positions_after [] q.events es);
    })

pair_orders : (q : Quoted) (one other : ℕ) (at : Fill) → IsPairable q one other at → orders_in_force (q.events ++ pair_events one other at q) ≡ orders_in_force q.events
pair_orders q one other at h = fold-append orders_after [] q.events (pair_events one other at q) ∙ ap (λ (es : List Event). fold orders_after (orders_in_force q.events) es) (events_are q one other at h)

same_twice : (a b : ℕ) → greater_number (greater_number a b) b ≡ greater_number a b
unfolding greater_number
same_twice a b = grind arith

pair_last : (q : Quoted) (one other : ℕ) (at : Fill) → IsPairable q one other at → last_order (q.events ++ pair_events one other at q) ≡ greater_number (last_order q.events) at.order
pair_last q one other at h =
    fold-append last_after 0 q.events (pair_events one other at q) ∙ ap (λ (es : List Event). fold last_after (last_order q.events) es) (events_are q one other at h)
    ∙ same_twice (last_order q.events) at.order

-- books stay in step
pub step_paired : (hedging hedging' : Bool) (specs specs' : List SymbolSpec) (ps ps' : List Position) (os : List Order) (last last' : ℕ) (q q' : Quoted) (one other : ℕ) (at : Fill) → IsPairable q one other at → IsInStep hedging specs ps os last q → IsRuleOf hedging' specs' ps' q' → last' ≡ greater_number last at.order → q' ≡ with_more (pair_events one other at q) q → IsInStep hedging' specs' ps' os last' q'
step_paired hedging hedging' specs specs' ps ps' os last last' q q' one other at h i r l e = record {
  rule = r;
  orders = i.orders ∙ sym (pair_orders q one other at h) ∙ ap (λ (x : Quoted). orders_in_force x.events) (sym e);
  ticket = l ∙ ap (λ (n : ℕ). greater_number n at.order) i.ticket ∙ sym (pair_last q one other at h) ∙ ap (λ (x : Quoted). last_order x.events) (sym e);
}

-- the answer
pub pair_answer_at : (hedging : Bool) (specs : List SymbolSpec) (ps : List Position) (q : Quoted) (one other : ℕ) (at : Fill) (x y : Option Position) (r : Answer) → IsRuleOf hedging specs ps q → x ≡ item position_ticket one ps → y ≡ item position_ticket other ps → r ≡ pair_answer at x y → r ≡ pair_answer at (item position_ticket one (open_positions q.events)) (item position_ticket other (open_positions q.events))
pair_answer_at hedging specs ps q one other at x y r i e f a =
    a ∙ ap (λ (o : Option Position). pair_answer at o y) (e ∙ ap (λ (xs : List Position). item position_ticket one xs) i.positions)
    ∙ ap (λ (o : Option Position). pair_answer at (item position_ticket one (open_positions q.events)) o) (f ∙ ap (λ (xs : List Position). item position_ticket other xs) i.positions)

pair_room : (q : Quoted) (one other : ℕ) (at : Fill) → IsPairable q one other at → have_room q.events (pair_events one other at q) ≡ nat_le (length (deals q.events) + 2) 50000
unfolding have_room
pair_room q one other at h = rw (events_are q one other at h) refl

pub pair_answers : (one other : ℕ) (at : Fill) (b b' : Kept) (r : Answer) → IsPairable b.quoted one other at → length (deals b.quoted.events) + 1 < 50000 → b' ≡ gained (pair_events one other at b.quoted) b → r ≡ pair_answer at (item position_ticket one (open_positions b.quoted.events)) (item position_ticket other (open_positions b.quoted.events)) → Answers b (dealt_outcome at.order (closed_by b.quoted.spec.hedging b.quoted.spec.specs (open_positions b.quoted.events) one other at)) (Ok r) b'
pair_answers one other at b b' r h l e a =
    let q : Quoted = b.quoted in
    let x : AreBoth q.spec.specs at (item position_ticket one (open_positions q.events)) (item position_ticket other (open_positions q.events)) = both q one other at h in
    let c : closed_by q.spec.hedging q.spec.specs (open_positions q.events) one other at ≡ Ok (pair_events one other at q) = closed_is q one other at h ∙ ap (λ (es : List Event). Ok es) (sym (events_are q one other at h)) in
    rw c (pair_room q one other at h ∙ grind (arith, l), a ∙ rw x.first (rw x.second (rw (events_are q one other at h) refl)), e)

pub pair_exhausts : (one other : ℕ) (at : Fill) (b b' : Kept) → IsPairable b.quoted one other at → 49999 ≤ length (deals b.quoted.events) → b' ≡ b → Answers b (dealt_outcome at.order (closed_by b.quoted.spec.hedging b.quoted.spec.specs (open_positions b.quoted.events) one other at)) (Err desk_fault.DealsExhausted) b'
pair_exhausts one other at b b' h l e =
    let q : Quoted = b.quoted in
    let c : closed_by q.spec.hedging q.spec.specs (open_positions q.events) one other at ≡ Ok (pair_events one other at q) = closed_is q one other at h ∙ ap (λ (es : List Event). Ok es) (sym (events_are q one other at h)) in
    rw c (pair_room q one other at h ∙ grind (arith, l), e)
