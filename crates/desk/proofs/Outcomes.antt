-- The outcomes of what is done.
use Rattle.std.proofs.Common.{◌≡◌, ◌∙◌, ℕ, ◌+◌, ◌<◌, ◌≤◌, true, false, cond, List, [], ◌∷◌, length, slice_get, Option, Some, None, Ok, Err, ℤ, refl, ap, sym, arith, ◌&&◌}
use Rattle.std.specs.Prelude.{nat_le}
use Rattle.std.specs.Ordering.{int_eq}
use Rattle.market_types.specs.declared.symbol_spec.SymbolSpec.{SymbolSpec}
use Rattle.account.specs.declared.account_spec.AccountSpec.{AccountSpec}
use Rattle.account.specs.declared.deal.Deal.{Deal}
use Rattle.account.specs.declared.deal.DealEntry.TheVariants as entry
use Rattle.account.specs.declared.position.Position.{Position}
use Rattle.account.specs.declared.event.Event.{Event}
use Rattle.account.specs.declared.event.Event.TheVariants.{Stops}
use Rattle.account.specs.Deals.{deal_of, deals}
use Rattle.account.specs.Positions.{same_side, after_deal, open_positions}
use Rattle.account.specs.StopOut.{PriceList}
use Rattle.positions.specs.declared.fill.Fill.{Fill}
use Rattle.positions.specs.declared.fill.Levels.{Levels}
use Rattle.positions.specs.Fills.{plain, closed, deal_on, met, levels_of, stops_event, filled}
use Rattle.judgement.specs.declared.request.Answer.{Answer}
use Rattle.judgement.specs.declared.return_code.ReturnCode.{ReturnCode}
use Rattle.judgement.specs.declared.return_code.ReturnCode.TheVariants as code
use Rattle.std.specs.List.{cons_option}
use Rattle.desk.specs.State.{Quoted, have_room}
use Rattle.desk.specs.Books.{Kept, gained, fill_events, IsFillable}
use Rattle.desk.specs.Requests.{answer_of, done, dealt_outcome, Answers}
use Rattle.desk.specs.Sound.{IsSound}
use Rattle.desk.specs.declared.fault.DeskFault.TheVariants as desk_fault

deals_of_stops : (o : Option Position) (l : Levels) → deals (stops_event o l) ≡ []
deals_of_stops None l = refl
deals_of_stops (Some p) l = elim (int_eq p.sl l.sl && int_eq p.tp l.tp) as (λ b. deals (cond b [] (Stops p.ticket l.sl l.tp ∷ [])) ≡ []) [ true ↦ refl | false ↦ refl ]

-- a fill makes one deal
pub fill_deals : (f : Fill) (q : Quoted) → deals (fill_events f q) ≡ deal_on q.spec.specs f (met q.spec.hedging (open_positions q.events) f) ∷ []
fill_deals f q =
    let o : Option Position = met q.spec.hedging (open_positions q.events) f in
    ap (λ (ds : List Deal). deal_on q.spec.specs f o ∷ ds) (deals_of_stops (after_deal (deal_on q.spec.specs f o) o) (levels_of f o))

-- number, volume and price of its deal are those of the fill
record IsDealOfFill (f : Fill) (d : Deal) : Type 0 where
  ticket : d.ticket ≡ f.deal
  volume : d.volume ≡ f.volume
  price : d.price ≡ f.price

deal_fields : (specs : List SymbolSpec) (f : Fill) (o : Option Position) → IsDealOfFill f (deal_on specs f o)
deal_fields specs f None = record { ticket = refl; volume = refl; price = refl }
deal_fields specs f (Some p) = elim (same_side p.buy f.buy) as (λ b. IsDealOfFill f (cond b (plain specs f p.ticket entry.In) (closed specs f p))) [
  | true ↦ record { ticket = refl; volume = refl; price = refl }
  | false ↦ record { ticket = refl; volume = refl; price = refl }
]

fill_answer : (f : Fill) (d : Deal) → IsDealOfFill f d → answer_of code.Done f.order (Some d) ≡ record { retcode = 10009; order = f.order; deal = f.deal; volume = f.volume; price = f.price }
fill_answer f d h = rw h.ticket (rw h.volume (rw h.price refl))

-- the answer to a deal
pub deal_answered : (f : Fill) (q : Quoted) → answer_of code.Done f.order (slice_get (deals (fill_events f q)) 0) ≡ record { retcode = 10009; order = f.order; deal = f.deal; volume = f.volume; price = f.price }
deal_answered f q = ap (λ (ds : List Deal). answer_of code.Done f.order (slice_get ds 0)) (fill_deals f q) ∙ (fill_answer f (deal_on q.spec.specs f (met q.spec.hedging (open_positions q.events) f)) (deal_fields q.spec.specs f (met q.spec.hedging (open_positions q.events) f)))

-- the outcome of a deal
pub deal_outcome : (f : Fill) (q : Quoted) → IsFillable q f → dealt_outcome f.order (filled q.spec.hedging q.spec.specs (open_positions q.events) f) ≡ done code.Done f.order (fill_events f q)
deal_outcome f q h = rw h.accepted refl

room_for : (events : List Event) (f : Fill) (q : Quoted) → have_room events (fill_events f q) ≡ nat_le (length (deals events) + 1) 50000
unfolding have_room
room_for events f q = ap (λ (ds : List Deal). nat_le (length (deals events) + length ds) 50000) (fill_deals f q)

pub deal_room : (f : Fill) (q : Quoted) → length (deals q.events) < 50000 → have_room q.events (fill_events f q) ≡ true
deal_room f q h = room_for q.events f q ∙ grind (arith, h)

pub deal_full : (f : Fill) (q : Quoted) → 50000 ≤ length (deals q.events) → have_room q.events (fill_events f q) ≡ false
deal_full f q h = room_for q.events f q ∙ grind (arith, h)

-- what a deal answers and leaves
pub deal_answers : (f : Fill) (b b' : Kept) (r : Answer) → IsFillable b.quoted f → length (deals b.quoted.events) < 50000 → b' ≡ gained (fill_events f b.quoted) b → r ≡ record { retcode = 10009; order = f.order; deal = f.deal; volume = f.volume; price = f.price } → Answers b (dealt_outcome f.order (filled b.quoted.spec.hedging b.quoted.spec.specs (open_positions b.quoted.events) f)) (Ok r) b'
deal_answers f b b' r h l e a = rw (deal_outcome f b.quoted h) (deal_room f b.quoted l, a ∙ sym (deal_answered f b.quoted), e)

pub deal_exhausts : (f : Fill) (b b' : Kept) → IsFillable b.quoted f → 50000 ≤ length (deals b.quoted.events) → b' ≡ b → Answers b (dealt_outcome f.order (filled b.quoted.spec.hedging b.quoted.spec.specs (open_positions b.quoted.events) f)) (Err desk_fault.DealsExhausted) b'
deal_exhausts f b b' h l e = rw (deal_outcome f b.quoted h) (deal_full f b.quoted l, e)

-- an event that is no deal finds room
pub quiet_room : (spec : AccountSpec) (prices : PriceList) (times : List (Option ℤ)) (events : List Event) (e : Event) → IsSound spec prices times events → deal_of e ≡ None → have_room events (e ∷ []) ≡ true
unfolding have_room
quiet_room spec prices times events e s q = rw q (grind (arith, s.few))

-- what is done without a deal answers and leaves
pub quiet_answers : (b b' : Kept) (e : Event) (c : ReturnCode) (order : ℕ) (r : Answer) → IsSound b.quoted.spec b.quoted.prices b.quoted.times b.quoted.events → deal_of e ≡ None → b' ≡ gained (e ∷ []) b → r ≡ answer_of c order None → Answers b (done c order (e ∷ [])) (Ok r) b'
quiet_answers b b' e c order r s q h a = (
  quiet_room b.quoted.spec b.quoted.prices b.quoted.times b.quoted.events e s q,
  a ∙ ap (λ (o : Option Deal). answer_of c order (slice_get (cons_option o []) 0)) (sym q),
  h,
)
