-- What fills and close-bys do to signed volumes.
use Rattle.std.proofs.Common.{◌≡◌, ◌∙◌, ℕ, ◌++◌, List, [], ◌∷◌, fold, Result, Ok, Err, ◌+ℤ◌, refl, ap, sym, subst, arith}
use Rattle.std.proofs.lemmas.Int.{ints}
use Rattle.std.proofs.lemmas.List.Elements.{filter_map-append}
use Rattle.std.proofs.lemmas.List.Sums.{fold-append}
use Rattle.account.specs.declared.position.Position.{Position}
use Rattle.account.specs.declared.event.Event.{Event}
use Rattle.account.specs.Keyed.{item}
use Rattle.account.specs.Deals.{total, deal_of, deals}
use Rattle.account.specs.Positions.{position_ticket, positions_after, open_positions}
use Rattle.account.specs.Conservation.{signed_volume, share}
use Rattle.account.proofs.Conserved.{total-append, volume-over, volume-is}
use Rattle.positions.specs.declared.fill.FillFault.{FillFault}
use Rattle.positions.specs.Fills.{Leaves}
use Rattle.positions.specs.Conserved.{GainsItsDeals, AreThoseOf}

shares_more : (t : ℕ) (es fs : List Event) → total (share t) (deals (es ++ fs)) ≡ total (share t) (deals es) +ℤ total (share t) (deals fs)
shares_more t es fs = rw (filter_map-append deal_of es fs) (total-append (share t) (deals es) (deals fs))

-- events that are added, and the positions after them
added_gains : (ps : List Position) (out es : List Event) → GainsItsDeals ps (fold positions_after ps es) out (out ++ es)
added_gains ps out es = λ t.
    let v : signed_volume (item position_ticket t (fold positions_after ps es)) ≡ signed_volume (item position_ticket t ps) +ℤ total (share t) (deals es) = volume-over t ps es in
    let s : total (share t) (deals (out ++ es)) ≡ total (share t) (deals out) +ℤ total (share t) (deals es) = shares_more t out es in
    omega (arith, ints, v, s)

same_gains : (ps : List Position) (out : List Event) → GainsItsDeals ps ps out out
same_gains ps out = λ t. refl

at_ends : (ps ps' qs : List Position) (out out' es : List Event) → ps' ≡ qs → out' ≡ es → GainsItsDeals ps qs out es → GainsItsDeals ps ps' out out'
at_ends ps ps' qs out out' es p e g =
    subst (λ (xs : List Position). GainsItsDeals ps xs out out') (sym p) (subst (λ (fs : List Event). GainsItsDeals ps qs out fs) (sym e) g)

-- whatever a call leaves
leaves_gains : {X : Type 0} (answer : Result (List Event) FillFault) (result : Result X FillFault) (ps ps' : List Position) (out out' : List Event) → Leaves answer result ps ps' out out' → GainsItsDeals ps ps' out out'
leaves_gains (Ok es) (Ok done) ps ps' out out' l = at_ends ps ps' (fold positions_after ps es) out out' (out ++ es) l.1 l.0 (added_gains ps out es)
leaves_gains (Ok es) (Err e) ps ps' out out' l = at_ends ps ps' ps out out' out l.2 l.1 (same_gains ps out)
leaves_gains (Err e) (Ok done) ps ps' out out' l = absurd l
leaves_gains (Err e) (Err f) ps ps' out out' l = at_ends ps ps' ps out out' out l.2 l.1 (same_gains ps out)

-- positions of a journal
those_of : (events : List Event) (ps : List Position) → ps ≡ open_positions events → AreThoseOf events ps
those_of events ps e = record {
  open_ones = e;
  volumes = λ t. ap (λ (xs : List Position). signed_volume (item position_ticket t xs)) e ∙ volume-is t events;
}

pub event_goes_on : (events : List Event) (e : Event) → AreThoseOf (events ++ e ∷ []) (positions_after (open_positions events) e)
event_goes_on events e = those_of (events ++ e ∷ []) (positions_after (open_positions events) e) (sym (fold-append positions_after [] events (e ∷ [])))

pub call_goes_on : (answer : Result (List Event) FillFault) (result : Result (Unit {0}) FillFault) (ps ps' : List Position) (events events' : List Event) → Leaves answer result ps ps' events events' → ps ≡ open_positions events → AreThoseOf events' ps'
call_goes_on (Ok es) (Ok done) ps ps' events events' l e = those_of events' ps'
    (l.1 ∙ ap (λ (xs : List Position). fold positions_after xs es) e ∙ sym (fold-append positions_after [] events es) ∙ ap (λ (fs : List Event). open_positions fs) (sym l.0))
call_goes_on (Ok es) (Err f) ps ps' events events' l e = those_of events' ps' (l.2 ∙ e ∙ ap (λ (fs : List Event). open_positions fs) (sym l.1))
call_goes_on (Err g) (Ok done) ps ps' events events' l e = absurd l
call_goes_on (Err g) (Err f) ps ps' events events' l e = those_of events' ps' (l.2 ∙ e ∙ ap (λ (fs : List Event). open_positions fs) (sym l.1))

-- the same positions before the call, in other words
pub leaves_gains_at : {X : Type 0} (answer : Result (List Event) FillFault) (result : Result X FillFault) (ps qs ps' : List Position) (out out' : List Event) → ps ≡ qs → Leaves answer result ps ps' out out' → GainsItsDeals qs ps' out out'
leaves_gains_at answer result ps qs ps' out out' e l = subst (λ (xs : List Position). GainsItsDeals xs ps' out out') e (leaves_gains answer result ps ps' out out' l)
