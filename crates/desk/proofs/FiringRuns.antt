-- Acts done one after another.
use Rattle.std.proofs.Common.{◌≡◌, ◌∙◌, ℤ, Bool, true, false, List, [], ◌∷◌, None, Result, Ok, Err, refl, ap, sym, subst}
use Rattle.std.specs.Result.{IsErrAnd}
use Rattle.std.proofs.lemmas.Result.{err_from_is_err_and}
use Rattle.market_types.specs.declared.quote.Quote.{Quote}
use Rattle.account.specs.declared.account_spec.AccountSpec.{AccountSpec}
use Rattle.account.specs.declared.event.Event.{Event}
use Rattle.account.specs.Deals.{deal_of}
use Rattle.account.specs.StopOut.{PriceList}
use Rattle.desk.specs.declared.trigger.Trigger.{Trigger}
use Rattle.desk.specs.declared.fault.DeskFault.{DeskFault}
use Rattle.desk.specs.declared.fault.DeskFault.TheVariants.{DealsExhausted, RequestsExhausted, OutOfMemory}
use Rattle.desk.specs.Books.{Kept, gained}
use Rattle.desk.specs.Effect.{Run, act, acts, triggers, triggered_by, triggered_run}
use Rattle.desk.specs.Runs.{Runs, after_run}
use Rattle.desk.specs.Sound.{IsSound}
use Rattle.desk.proofs.Closed.{run_of}
use Rattle.desk.proofs.Outcomes.{quiet_room}

-- the run of the books as they stand
abbrev pub run_from : Kept → Run
run_from b = record { events = b.quoted.events; full = false }

-- an event that is no deal
pub quiet_runs : (b b' : Kept) (e : Event) (x : Unit {0}) → IsSound b.quoted.spec b.quoted.prices b.quoted.times b.quoted.events → deal_of e ≡ None → b' ≡ gained (e ∷ []) b → Runs b (run_of b.quoted.events (e ∷ [])) (Ok x) b'
quiet_runs b b' e x s q h = rw (quiet_room b.quoted.spec b.quoted.prices b.quoted.times b.quoted.events e s q) (refl, h)

-- an act that adds certain events
pub as_act : (b b' : Kept) (adds : List Event → List Event) (more : List Event) (r : Result (Unit {0}) DeskFault) → adds b.quoted.events ≡ more → Runs b (run_of b.quoted.events more) r b' → Runs b (act adds (run_from b)) r b'
as_act b b' adds more r h g = subst (λ (m : List Event). Runs b (run_of b.quoted.events m) r b') (sym h) g

-- after an act that finds no room no further act is done
pub full_act : (adds : List Event → List Event) (run : Run) → run.full ≡ true → act adds run ≡ run
full_act adds run h = rw h refl

pub full_acts : {X : Type 0} (does : X → List Event → List Event) (run : Run) (xs : List X) → run.full ≡ true → acts does run xs ≡ run
full_acts does run [] h = refl
full_acts {X} does run (x ∷ xs) h = ap (λ (r : Run). acts does r xs) (full_act (does x) run h) ∙ full_acts does run xs h

-- the exit of a `?`
pub exit_runs : (b b' : Kept) (run : Run) (r : Result (Unit {0}) DeskFault) (e : DeskFault) → IsErrAnd r (λ x. x ≡ e) → Runs {A = Unit {0}} b run (Err e) b' → Runs b run r b'
exit_runs b b' run r e is h = let p = err_from_is_err_and r is in subst (λ (x : Result (Unit {0}) DeskFault). Runs b run x b') (sym (p.1 ∙ ap Err p.2)) h

abbrev made : List Event → Bool → Run
made es full = record { events = es; full = full }

-- a run that is not full is that of the books that it leaves
pub run_left : (b b' : Kept) (run : Run) (x : Unit {0}) → Runs b run (Ok x) b' → run ≡ run_from b'
run_left b b' run x h = ap (λ (f : Bool). made run.events f) h.0 ∙ ap (λ (es : List Event). made es false) (sym (ap (λ (k : Kept). k.quoted.events) h.1))

-- books on which some of all acts are done, and others are left
pub record IsUnderWay {X : Type 0} (does : AccountSpec → PriceList → X → List Event → List Event) (b0 b : Kept) (all rest : List X) : Type 0 where
  pub whole : b.broken ≡ false
  pub kept : b ≡ after_run (run_from b) b0
  pub left : acts (does b0.quoted.spec b0.quoted.prices) (run_from b) rest ≡ acts (does b0.quoted.spec b0.quoted.prices) (run_from b0) all

pub begins : {X : Type 0} (does : AccountSpec → PriceList → X → List Event → List Event) (b : Kept) (all rest : List X) → b.broken ≡ false → rest ≡ all → IsUnderWay does b b all rest
begins does b all rest h e = rw e (record { whole = h; kept = refl; left = refl })

-- the account and the prices stay
same_act : {X : Type 0} (does : AccountSpec → PriceList → X → List Event → List Event) (b0 b : Kept) (x : X) → b ≡ after_run (run_from b) b0 → act (does b.quoted.spec b.quoted.prices x) (run_from b) ≡ act (does b0.quoted.spec b0.quoted.prices x) (run_from b)
same_act does b0 b x h = ap (λ (k : Kept). act (does k.quoted.spec k.quoted.prices x) (run_from b)) h

pub still_kept : (b0 b b' : Kept) (run : Run) → b ≡ after_run (run_from b) b0 → b' ≡ after_run run b → b' ≡ after_run run b0
still_kept b0 b b' run h g = g ∙ ap (λ (k : Kept). after_run run k) h

-- one more is done
pub goes : {X : Type 0} (does : AccountSpec → PriceList → X → List Event → List Event) (b0 b b' : Kept) (all rest others : List X) (x : X) (u : Unit {0}) → IsUnderWay does b0 b all rest → rest ≡ x ∷ others → Runs b (act (does b.quoted.spec b.quoted.prices x) (run_from b)) (Ok u) b' → IsUnderWay does b0 b' all others
goes {X} does b0 b b' all rest others x u w e h =
    let run : Run = act (does b.quoted.spec b.quoted.prices x) (run_from b) in
    let r : run ≡ run_from b' = run_left b b' run u h in
    let d : X → List Event → List Event = does b0.quoted.spec b0.quoted.prices in
    record {
      whole = ap (λ (k : Kept). k.broken) h.1 ∙ w.whole;
      kept = still_kept b0 b b' run w.kept h.1 ∙ ap (λ (k : Run). after_run k b0) r;
      left = ap (λ (k : Run). acts d k others) (sym (sym (same_act does b0 b x w.kept) ∙ r)) ∙ ap (λ (xs : List X). acts d (run_from b) xs) (sym e) ∙ w.left;
    }

-- one finds no room, or there is no memory
pub stops : {X : Type 0} (does : AccountSpec → PriceList → X → List Event → List Event) (b0 b b' : Kept) (all rest others : List X) (x : X) (e : DeskFault) → IsUnderWay does b0 b all rest → rest ≡ x ∷ others → Runs {A = Unit {0}} b (act (does b.quoted.spec b.quoted.prices x) (run_from b)) (Err e) b' → Runs {A = Unit {0}} b0 (acts (does b0.quoted.spec b0.quoted.prices) (run_from b0) all) (Err e) b'
stops {X} does b0 b b' all rest others x DealsExhausted w e h =
    let run : Run = act (does b.quoted.spec b.quoted.prices x) (run_from b) in
    let d : X → List Event → List Event = does b0.quoted.spec b0.quoted.prices in
    let same : acts d (run_from b0) all ≡ run = sym w.left ∙ ap (λ (xs : List X). acts d (run_from b) xs) e ∙ ap (λ (k : Run). acts d k others) (sym (same_act does b0 b x w.kept)) ∙ full_acts d run others h.0 in
    subst (λ (k : Run). (k.full ≡ true) × (b' ≡ after_run k b0)) (sym same) (h.0, still_kept b0 b b' run w.kept h.1)
stops does b0 b b' all rest others x RequestsExhausted w e h = absurd h
stops does b0 b b' all rest others x OutOfMemory w e h = h

-- all are done
pub ends : {X : Type 0} (does : AccountSpec → PriceList → X → List Event → List Event) (b0 b : Kept) (all rest : List X) (u : Unit {0}) → IsUnderWay does b0 b all rest → rest ≡ [] → Runs b0 (acts (does b0.quoted.spec b0.quoted.prices) (run_from b0) all) (Ok u) b
ends {X} does b0 b all rest u w e =
    let d : X → List Event → List Event = does b0.quoted.spec b0.quoted.prices in
    let same : acts d (run_from b0) all ≡ run_from b = sym w.left ∙ ap (λ (xs : List X). acts d (run_from b) xs) e in
    subst (λ (k : Run). (k.full ≡ false) × (b ≡ after_run k b0)) (sym same) (refl, w.kept)

-- all that a quote fires
pub all_fired : (b b' : Kept) (all : List Trigger) (quote : Quote) (time_ms : ℤ) (r : Result (Unit {0}) DeskFault) → time_ms ≡ quote.time_ms → all ≡ triggers quote b.quoted.events → Runs b (acts (triggered_by b.quoted.spec b.quoted.prices time_ms) (run_from b) all) r b' → Runs b (triggered_run b.quoted.spec b.quoted.prices quote (run_from b)) r b'
all_fired b b' all quote time_ms r t e h =
    subst (λ (z : ℤ). Runs b (acts (triggered_by b.quoted.spec b.quoted.prices z) (run_from b) (triggers quote b.quoted.events)) r b') t
    (subst (λ (xs : List Trigger). Runs b (acts (triggered_by b.quoted.spec b.quoted.prices time_ms) (run_from b) xs) r b') e h)
