-- What is answered to a request and which events it adds (MQL5 Reference, OrderSend, Trade Request Structure,
-- Structure of a Trade Request Result).
use Rattle.std.specs.Prelude.{ℕ, ◌≡◌, ◌+◌, ◌<◌, ◌≤◌, true, false, List, [], ◌∷◌, slice_get, ⊤, Option, Some, None, Result, Ok, Err, ℤ, pos}
use Rattle.account.specs.declared.account_spec.AccountSpec.{AccountSpec}
use Rattle.account.specs.declared.deal.Deal.{Deal}
use Rattle.account.specs.declared.event.Event.{Event}
use Rattle.account.specs.declared.event.Event.TheVariants as event
use Rattle.account.specs.declared.event.RemovalCause.TheVariants as cause
use Rattle.account.specs.declared.position.Position.{Position}
use Rattle.account.specs.Deals.{deals}
use Rattle.account.specs.Orders.{orders_in_force}
use Rattle.account.specs.Positions.{open_positions}
use Rattle.positions.specs.declared.fill.Fill.{Fill}
use Rattle.positions.specs.declared.fill.FillFault.{FillFault}
use Rattle.positions.specs.declared.fill.FillFault.TheVariants as fault
use Rattle.positions.specs.Fills.{filled}
use Rattle.positions.specs.CloseBy.{common, closed_by}
use Rattle.judgement.specs.declared.act.Act.{Act}
use Rattle.judgement.specs.declared.act.Act.TheVariants as act
use Rattle.judgement.specs.declared.request.Answer.{Answer}
use Rattle.judgement.specs.declared.request.Request.{Request}
use Rattle.judgement.specs.declared.return_code.ReturnCode.{ReturnCode}
use Rattle.judgement.specs.declared.return_code.ReturnCode.TheVariants as code
use Rattle.judgement.specs.Accept.{todo, refusal_of}
use Rattle.judgement.specs.Numbers.{code_number}
use Rattle.desk.specs.declared.fault.DeskFault.{DeskFault}
use Rattle.desk.specs.declared.fault.DeskFault.TheVariants as desk_fault
use Rattle.desk.specs.Books.{Kept, with_more, gained, IsFillable, IsPlaceable, IsChangeable, IsPairable}
use Rattle.desk.specs.State.{Quoted, journal_of, DeskState, most_requests, have_room}
use Rattle.desk.specs.Tickets.{next_of}

-- the answer to a request, and the events that it adds
pub record Outcome : Type 0 where
  pub answer : Answer
  pub events : List Event

-- an answer tells the order and the first deal, of which volume and price are; 0 where there is none
abbrev pub answer_of : ReturnCode → ℕ → Option Deal → Answer
answer_of c order None =
    record { retcode = code_number c; order = order; deal = 0; volume = pos 0; price = pos 0 }
answer_of c order (Some d) =
    record { retcode = code_number c; order = order; deal = d.ticket; volume = d.volume; price = d.price }

-- a refused request adds no event
abbrev pub refused : ReturnCode → Outcome
refused c = record { answer = answer_of c 0 None; events = [] }

-- a request that is done, on an order, with its events
abbrev pub done : ReturnCode → ℕ → List Event → Outcome
done c order events = record { answer = answer_of c order (slice_get (deals events) 0); events = events }

-- the code of a fill or close-by that the positions refuse: judgement leaves none
abbrev pub code_of : FillFault → ReturnCode
code_of fault.PositionClosed = code.PositionClosed
code_of fault.WrongSide = code.Invalid
code_of fault.TooMuch = code.InvalidCloseVolume
code_of fault.OutOfMemory = code.Invalid

-- the answer to a close-by: its first deal closes the smaller volume at the open price of the other position
abbrev pub pair_answer : Fill → Option Position → Option Position → Answer
pair_answer at (Some p) (Some q) =
    record { retcode = 10009; order = at.order; deal = at.deal; volume = common p q; price = q.price }
pair_answer at (Some p) None = answer_of code.Done at.order None
pair_answer at None other = answer_of code.Done at.order None

-- the outcome of a fill or close-by, which takes an order ticket
abbrev pub dealt_outcome : ℕ → Result (List Event) FillFault → Outcome
dealt_outcome order (Ok events) = done code.Done order events
dealt_outcome order (Err e) = refused (code_of e)

-- the outcome of what is to be done. A deal and a close-by take an order ticket, and so does an order that is
-- placed; a change and a removal tell the ticket that they name
abbrev pub outcome_of : AccountSpec → List Position → Act → Outcome
outcome_of spec ps (act.Deal f) = dealt_outcome f.order (filled spec.hedging spec.specs ps f)
outcome_of spec ps (act.Place o) = done code.Placed o.ticket (event.Placed o ∷ [])
outcome_of spec ps (act.Change o) = done code.Done o.ticket (event.Modified o ∷ [])
outcome_of spec ps (act.Remove t) = done code.Done t (event.Removed t cause.Request ∷ [])
outcome_of spec ps (act.SetStops t sl tp) = done code.Done 0 (event.Stops t sl tp ∷ [])
outcome_of spec ps (act.CloseBy one other at) =
    dealt_outcome at.order (closed_by spec.hedging spec.specs ps one other at)

-- what is to be done for a request where no rule fails
abbrev pub todo_of : Quoted → ℤ → Request → Option Act
todo_of q time_ms r = todo (journal_of q) (orders_in_force q.events) q.prices time_ms (next_of q.events) r

-- the code of the first rule that fails, that of money included
abbrev pub code_for : Quoted → ℤ → Request → Option ReturnCode
code_for q time_ms r =
    refusal_of (journal_of q) (orders_in_force q.events) q.prices time_ms (next_of q.events) r

-- the outcome by that code, and by what is to be done where there is none; there is something then
abbrev pub outcome_by : Quoted → Option ReturnCode → Option Act → Outcome
outcome_by q (Some c) todo = refused c
outcome_by q None None = refused code.Invalid
outcome_by q None (Some todo) = outcome_of q.spec (open_positions q.events) todo

-- the outcome of a request at a time
abbrev pub judged : Quoted → ℤ → Request → Outcome
judged q time_ms r = outcome_by q (code_for q time_ms r) (todo_of q time_ms r)

-- what a call leaves of the books: the outcome, or nothing where its deals find no room
abbrev pub Answers : Kept → Outcome → Result Answer DeskFault → Kept → Type 0
Answers b o (Ok answer) b' =
    (have_room b.quoted.events o.events ≡ true) × (answer ≡ o.answer) × (b' ≡ gained o.events b)
Answers b o (Err desk_fault.DealsExhausted) b' =
    (have_room b.quoted.events o.events ≡ false) × (b' ≡ b)
Answers b o (Err desk_fault.RequestsExhausted) b' = ⊥
Answers b o (Err desk_fault.OutOfMemory) b' = b'.broken ≡ true

-- what is to be done may be done
abbrev pub IsReady : Quoted → Act → Type 0
IsReady q (act.Deal f) = IsFillable q f
IsReady q (act.Place o) = IsPlaceable q o
IsReady q (act.Change o) = IsChangeable q o
IsReady q (act.Remove t) = ⊤
IsReady q (act.SetStops t sl tp) = ⊤
IsReady q (act.CloseBy one other at) = IsPairable q one other at

-- what `send` answers and leaves: the outcome; at the request past the last `RequestsExhausted`, and where
-- the deals find no room `DealsExhausted`, and then nothing changes
abbrev pub Sends : DeskState → Outcome → Result Answer DeskFault → DeskState → Type 0
Sends a o (Ok answer) a' =
    (a.requests < most_requests) × (have_room a.quoted.events o.events ≡ true) × (answer ≡ o.answer)
    × (a' ≡ record a { quoted = with_more o.events a.quoted; requests = a.requests + 1 })
Sends a o (Err desk_fault.RequestsExhausted) a' = (most_requests ≤ a.requests) × (a' ≡ a)
Sends a o (Err desk_fault.DealsExhausted) a' =
    (a.requests < most_requests) × (have_room a.quoted.events o.events ≡ false) × (a' ≡ a)
Sends a o (Err desk_fault.OutOfMemory) a' = (a.requests < most_requests) × (a'.closed ≡ true)
