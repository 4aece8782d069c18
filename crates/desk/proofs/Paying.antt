-- What is answered to a request that is judged.
use Rattle.std.proofs.Common.{◌≡◌, ◌∙◌, ◌≤◌, append-nil, true, List, [], ◌∷◌, Option, Some, None, Result, Ok, ℤ, ap, sym, subst, arith}
use Rattle.account.specs.declared.account_spec.AccountSpec.{AccountSpec}
use Rattle.account.specs.declared.event.Event.{Event}
use Rattle.account.specs.declared.event.Event.TheVariants.{Added}
use Rattle.account.specs.Journal.{deposit_deal}
use Rattle.account.specs.Positions.{open_positions}
use Rattle.judgement.specs.declared.act.Act.{Act}
use Rattle.judgement.specs.declared.request.Answer.{Answer}
use Rattle.judgement.specs.declared.request.Request.{Request}
use Rattle.judgement.specs.declared.return_code.ReturnCode.{ReturnCode}
use Rattle.desk.specs.declared.fault.DeskFault.{DeskFault}
use Rattle.desk.specs.State.{have_room}
use Rattle.desk.specs.Books.{Kept, gained}
use Rattle.desk.specs.Requests.{Outcome, answer_of, refused, todo_of, code_for, outcome_of, outcome_by, judged, Answers}
use Rattle.desk.specs.Sound.{IsSound}
use Rattle.desk.specs.Tickets.{last_order}
use Rattle.desk.proofs.Entered.{greater_none}

answers_at : (b b' : Kept) (o o' : Outcome) (r : Result Answer DeskFault) → o' ≡ o → Answers b o r b' → Answers b o' r b'
answers_at b b' o o' r e h = subst (λ (x : Outcome). Answers b x r b') (sym e) h

pub room_for_none : (b : Kept) → IsSound b.quoted.spec b.quoted.prices b.quoted.times b.quoted.events → have_room b.quoted.events [] ≡ true
unfolding have_room
room_for_none b s = grind (arith, s.few)

pub none_gained : (b : Kept) → gained [] b ≡ b
none_gained b = ap (λ (es : List Event). record b { quoted = record b.quoted { events = es } }) (append-nil b.quoted.events)

-- a refused request adds no event
refused_answers : (b b' : Kept) (c : ReturnCode) (r : Answer) → IsSound b.quoted.spec b.quoted.prices b.quoted.times b.quoted.events → r ≡ answer_of c 0 None → b' ≡ b → Answers b (refused c) (Ok r) b'
refused_answers b b' c r s a e = (room_for_none b s, a, e ∙ sym (none_gained b))

-- a rule fails
pub code_answers : (b b' : Kept) (time_ms : ℤ) (r : Request) (c : ReturnCode) (a : Answer) → IsSound b.quoted.spec b.quoted.prices b.quoted.times b.quoted.events → code_for b.quoted time_ms r ≡ Some c → a ≡ answer_of c 0 None → b' ≡ b → Answers b (judged b.quoted time_ms r) (Ok a) b'
code_answers b b' time_ms r c a s h e k =
    answers_at b b' (refused c) (judged b.quoted time_ms r) (Ok a) (ap (λ (x : Option ReturnCode). outcome_by b.quoted x (todo_of b.quoted time_ms r)) h) (refused_answers b b' c a s e k)

-- no rule fails
pub done_answers : (b b' : Kept) (time_ms : ℤ) (r : Request) (t : Act) (a : Result Answer DeskFault) → code_for b.quoted time_ms r ≡ None → todo_of b.quoted time_ms r ≡ Some t → Answers b (outcome_of b.quoted.spec (open_positions b.quoted.events) t) a b' → Answers b (judged b.quoted time_ms r) a b'
done_answers b b' time_ms r t a h g k =
    answers_at b b' (outcome_of b.quoted.spec (open_positions b.quoted.events) t) (judged b.quoted time_ms r) a
    (ap (λ (x : Option ReturnCode). outcome_by b.quoted x (todo_of b.quoted time_ms r)) h ∙ ap (λ (x : Option Act). outcome_by b.quoted None x) g) k

-- no order has a ticket yet
pub begun_last : (spec : AccountSpec) (es : List Event) → es ≡ Added (deposit_deal spec) ∷ [] → last_order es ≤ 0
begun_last spec es e = rw e (rw (greater_none 0) (omega arith))
