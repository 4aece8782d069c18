-- A ledger, its positions and its orders in step (own), and what each act asks for.
use Rattle.std.specs.Prelude.{◌≡◌, ℕ, ◌+◌, ◌<◌, ◌≤◌, ◌++◌, Bool, true, List, length, None, is_ok}
use Rattle.market_types.specs.declared.symbol_spec.SymbolSpec.{SymbolSpec}
use Rattle.account.specs.declared.order.Order.{Order}
use Rattle.account.specs.declared.position.Position.{Position}
use Rattle.account.specs.declared.event.Event.{Event}
use Rattle.account.specs.Deals.{deals}
use Rattle.account.specs.Keyed.{item}
use Rattle.account.specs.Orders.{order_ticket, orders_in_force}
use Rattle.account.specs.Positions.{position_ticket, open_positions}
use Rattle.order_book.specs.Book.{most_orders, modify_fault}
use Rattle.positions.specs.declared.fill.Fill.{Fill}
use Rattle.positions.specs.Fills.{met, events_on, refusal}
use Rattle.positions.specs.CloseBy.{closed_by}
use Rattle.positions.specs.Money.{added_by}
use Rattle.desk.specs.State.{Quoted}
use Rattle.desk.specs.Sound.{MayFill, IsStanding}
use Rattle.desk.specs.Tickets.{greater_number, last_order}

-- the journal gains events
abbrev pub with_more : List Event → Quoted → Quoted
with_more more q = record q { events = q.events ++ more }

-- a rule of positions has the kind, the symbols and the open positions of a ledger
pub record IsRuleOf (hedging : Bool) (specs : List SymbolSpec) (ps : List Position)
    (q : Quoted) : Type 0 where
  pub kind : hedging ≡ q.spec.hedging
  pub symbols : specs ≡ q.spec.specs
  pub positions : ps ≡ open_positions q.events

-- the events of a fill
abbrev pub fill_events : Fill → Quoted → List Event
fill_events f q = events_on q.spec.specs f (met q.spec.hedging (open_positions q.events) f)

-- a fill that may be done: it is not refused, and where it opens a position its order has a ticket that no
-- position has
pub record IsFillable (q : Quoted) (f : Fill) : Type 0 where
  pub may : MayFill q.spec q.prices f (met q.spec.hedging (open_positions q.events) f)
  pub accepted : refusal q.spec.hedging (open_positions q.events) f ≡ None
  pub order : met q.spec.hedging (open_positions q.events) f ≡ None → 0 < f.order
  pub taken : f.order ≤ last_order q.events + 1
  pub fresh : met q.spec.hedging (open_positions q.events) f ≡ None →
      item position_ticket f.order (open_positions q.events) ≡ None
  pub alone : met q.spec.hedging (open_positions q.events) f ≡ None →
      item order_ticket f.order (orders_in_force q.events) ≡ None

-- a close-by that may be done: both positions are open and opposite, and its order has the next ticket
pub record IsPairable (q : Quoted) (one other : ℕ) (at : Fill) : Type 0 where
  pub hedging : q.spec.hedging ≡ true
  pub accepted : is_ok (closed_by true q.spec.specs (open_positions q.events) one other at) ≡ true
  pub deal : at.deal ≡ length (deals q.events) + 1
  pub taken : at.order ≤ last_order q.events + 1

-- the deals of a close-by
abbrev pub pair_events : ℕ → ℕ → Fill → Quoted → List Event
pair_events one other at q =
    added_by (closed_by q.spec.hedging q.spec.specs (open_positions q.events) one other at)

-- an order that may be placed: its ticket is new, and fewer orders stand than may
pub record IsPlaceable (q : Quoted) (o : Order) : Type 0 where
  pub standing : IsStanding q.spec q.prices (greater_number (last_order q.events) o.ticket) o
  pub fresh : item order_ticket o.ticket (orders_in_force q.events) ≡ None
  pub apart : item position_ticket o.ticket (open_positions q.events) ≡ None
  pub few : length (orders_in_force q.events) < most_orders
  pub taken : o.ticket ≤ last_order q.events + 1

-- a change of an order that stands
pub record IsChangeable (q : Quoted) (o : Order) : Type 0 where
  pub symbol : o.symbol < length q.spec.specs
  pub changes : modify_fault (orders_in_force q.events) o ≡ None

-- the orders, the positions and the last ticket that are kept are those of the journal
pub record IsInStep (hedging : Bool) (specs : List SymbolSpec) (ps : List Position) (os : List Order)
    (last : ℕ) (q : Quoted) : Type 0 where
  pub rule : IsRuleOf hedging specs ps q
  pub orders : os ≡ orders_in_force q.events
  pub ticket : last ≡ last_order q.events

-- what contracts see of books: they are out of step after want of memory
pub record Kept : Type 0 where
  pub quoted : Quoted
  pub broken : Bool

-- books in step whose journal gained events
abbrev pub gained : List Event → Kept → Kept
gained more b = record b { quoted = with_more more b.quoted }
