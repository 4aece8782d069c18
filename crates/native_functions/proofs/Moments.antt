-- Parts of the text of a moment.
use Rattle.std.proofs.Common.{◌≡◌, ℕ, ℤ, Bool, true, List, [], Result, IfOk, unsigned_abs, sym, ap, subst}
use Rattle.fx8.specs.declared.int_kind.IntKind.TheVariants as kind
use Rattle.fx8.specs.Operators.{bits}
use Rattle.mql_meaning.specs.declared.store.Store.{Store}
use Rattle.mql_meaning.specs.Changes.{either}
use Rattle.mql_meaning.specs.Dates.{day_text, has_date, minute_text, moment_text, second_text}
use Rattle.mql_meaning.specs.StringFunctions.{apart, clock_text, has_flag, part_of, time_parts}
use Rattle.mql_meaning.specs.Natives.{empty, gives_text, refuses, tells_time}
use Rattle.store_cells.specs.declared.fault.Fault.{Fault}
use Rattle.native_arguments.specs.declared.done.NativeDone as code
use Rattle.native_arguments.specs.Done.{Comes}

pub day_of : (moment : List ℕ) (second : ℕ) → moment ≡ moment_text second → part_of moment 0 10 ≡ day_text second
day_of moment second e = ap (λ (t : List ℕ). part_of t 0 10) e

pub minutes_of : (moment : List ℕ) (second : ℕ) → moment ≡ moment_text second →
    part_of moment 11 5 ≡ minute_text second
minutes_of moment second e = ap (λ (t : List ℕ). part_of t 11 5) e

pub seconds_of : (moment : List ℕ) (second : ℕ) → moment ≡ moment_text second →
    part_of moment 11 8 ≡ second_text second
seconds_of moment second e = ap (λ (t : List ℕ). part_of t 11 8) e

-- the parts of a time, each found by itself
pub parts_are : {E : Type 0} (day clock : List ℕ) (second flags : ℕ) (r : Result (List ℕ) E) →
    day ≡ either (has_flag flags 1) (day_text second) [] → clock ≡ clock_text second flags →
    IfOk r (λ t. t ≡ apart day clock) → IfOk r (λ t. t ≡ time_parts second flags)
parts_are {E} day clock second flags r d k h =
    subst (λ (x : List ℕ). IfOk r (λ t. t ≡ apart x (clock_text second flags))) d
    (subst (λ (x : List ℕ). IfOk r (λ t. t ≡ apart day x)) k h)

-- TimeToString, of a time that has a date
pub tells : (time flags : ℤ) (second word : ℕ) (r : Result code.NativeDone Fault) (s : Store) →
    has_date time ≡ true → unsigned_abs time ≡ second → word ≡ bits kind.Int flags →
    Comes (gives_text (time_parts second word) s) r s → Comes (tells_time time flags s) r s
tells time flags second word r s d n w h =
    subst (λ (b : Bool). Comes (either b (gives_text (time_parts (unsigned_abs time) (bits kind.Int flags))) (refuses empty) s) r s)
    (sym d)
    (subst (λ (m : ℕ). Comes (gives_text (time_parts m (bits kind.Int flags)) s) r s) (sym n)
    (subst (λ (m : ℕ). Comes (gives_text (time_parts second m) s) r s) w h))
