-- Fields of times.
use Rattle.std.proofs.Common.{◌≡◌, ℕ, ℤ, pos, negsuc, ◌+◌, ◌*◌, ◌<◌, ◌≤◌, ◌&&◌, ◌/◌, ◌%◌, length, Bool, true, false, List, [], ◌∷◌, ◌++◌, Option, Some, None, refl, sym, ap, ◌∙◌, append_assoc, arith}
use Rattle.std.specs.Prelude.{nat_lt, slice_index, if◌then◌else◌}
use Rattle.std.proofs.lemmas.Bool.Decides.{nat_tests}
use Rattle.jiff_core.specs.Calendar.{days_from_civil}
use Rattle.calendar.specs.Days as days
use Rattle.mql_mean.specs.declared.value.Value.{Value}
use Rattle.mql_meaning.specs.Changes.{then_some}
use Rattle.mql_meaning.specs.Places.{number_of}
use Rattle.mql_meaning.specs.Dates.{Date, date, day_of_week, moment}
use Rattle.mql_meaning.specs.Natives.{named_moment, naturals, time_fields}
use Rattle.native_times.specs.Times.{natural, natural_of}

lt_true : (m n : ℕ) → m < n → nat_lt m n ≡ true
lt_true m n h = grind (arith, nat_tests)

lt_false : (m n : ℕ) → n ≤ m → nat_lt m n ≡ false
lt_false m n h = grind (arith, nat_tests)

hour_out : (b h n s : Bool) → h ≡ false → (b && h && n && s) ≡ false
hour_out true h n s e = rw e refl
hour_out false h n s e = refl

minute_out : (b h n s : Bool) → n ≡ false → (b && h && n && s) ≡ false
minute_out true true n s e = rw e refl
minute_out true false n s e = refl
minute_out false h n s e = refl

second_out : (b h n s : Bool) → s ≡ false → (b && h && n && s) ≡ false
second_out true true true s e = e
second_out true true false s e = refl
second_out true false n s e = refl
second_out false h n s e = refl

all_in : (b h n s : Bool) → h ≡ true → n ≡ true → s ≡ true → (b && h && n && s) ≡ b
all_in true h n s e f g = rw e (rw f (rw g refl))
all_in false h n s e f g = refl

abbrev named : ℕ → ℕ → ℕ → ℕ → ℕ → ℕ → Bool → Option ℕ
named year month day hour minute sec b = elim b [
  | true ↦ Some (days.second (days_from_civil (pos year) month day) (hour * 3600 + minute * 60 + sec))
  | false ↦ None
]

pub no_hour : (year month day hour minute sec : ℕ) → 24 ≤ hour → None ≡ moment year month day hour minute sec
no_hour year month day hour minute sec h =
    sym (ap (named year month day hour minute sec)
    (hour_out (days.is_day year month day) (nat_lt hour 24) (nat_lt minute 60) (nat_lt sec 60) (lt_false hour 24 h)))

pub no_minute : (year month day hour minute sec : ℕ) → 60 ≤ minute → None ≡ moment year month day hour minute sec
no_minute year month day hour minute sec h =
    sym (ap (named year month day hour minute sec)
    (minute_out (days.is_day year month day) (nat_lt hour 24) (nat_lt minute 60) (nat_lt sec 60) (lt_false minute 60 h)))

pub no_second : (year month day hour minute sec : ℕ) → 60 ≤ sec → None ≡ moment year month day hour minute sec
no_second year month day hour minute sec h =
    sym (ap (named year month day hour minute sec)
    (second_out (days.is_day year month day) (nat_lt hour 24) (nat_lt minute 60) (nat_lt sec 60) (lt_false sec 60 h)))

chosen : (b : Bool) (t : ℕ) → (if b then Some t else None) ≡ elim b [ true ↦ Some t | false ↦ None ]
chosen true t = refl
chosen false t = refl

pub moment_is : (year month day hour minute sec : ℕ) → hour < 24 → minute < 60 → sec < 60 →
    (if days.is_day year month day
    then Some (days.second (days_from_civil (pos year) month day) (hour * 3600 + minute * 60 + sec)) else None)
    ≡ moment year month day hour minute sec
moment_is year month day hour minute sec h n s =
    chosen (days.is_day year month day) (days.second (days_from_civil (pos year) month day) (hour * 3600 + minute * 60 + sec))
    ∙ sym (ap (named year month day hour minute sec)
    (all_in (days.is_day year month day) (nat_lt hour 24) (nat_lt minute 60) (nat_lt sec 60)
    (lt_true hour 24 h) (lt_true minute 60 n) (lt_true sec 60 s)))

-- numbers before others
abbrev pub before : List ℕ → Option (List ℕ) → Option (List ℕ)
before xs more = then_some more (λ ys. Some (xs ++ ys))

pub before_none : (more : Option (List ℕ)) → before [] more ≡ more
before_none None = refl
before_none (Some ys) = refl

pushed : (xs : List ℕ) (x : ℕ) (more : Option (List ℕ)) →
    before xs (then_some more (λ ys. Some (x ∷ ys))) ≡ before (xs ++ x ∷ []) more
pushed xs x None = refl
pushed xs x (Some ys) = ap Some (sym (append_assoc xs (x ∷ []) ys))

-- a value whose number is not below 0, and one that has none
by_natural : (o : Option ℤ) (vs : List Value) (v : Value) → number_of v ≡ o →
    naturals (v ∷ vs) ≡ then_some (then_some o natural) (λ n. then_some (naturals vs) (λ ns. Some (n ∷ ns)))
by_natural None vs v e = rw e refl
by_natural (Some (pos n)) vs v e = rw e refl
by_natural (Some (negsuc n)) vs v e = rw e refl

opened : (v : Value) (vs : List Value) →
    naturals (v ∷ vs) ≡ then_some (natural_of v) (λ n. then_some (naturals vs) (λ ns. Some (n ∷ ns)))
opened v vs = by_natural (number_of v) vs v refl

pub before_one : (xs : List ℕ) (v : Value) (vs : List Value) (n : ℕ) → natural_of v ≡ Some n →
    before xs (naturals (v ∷ vs)) ≡ before (xs ++ n ∷ []) (naturals vs)
before_one xs v vs n e =
    ap (before xs) (opened v vs ∙ ap (λ o. then_some o (λ m. then_some (naturals vs) (λ ns. Some (m ∷ ns)))) e)
    ∙ pushed xs n (naturals vs)

pub before_end : (xs : List ℕ) (v : Value) (vs : List Value) → natural_of v ≡ None →
    before xs (naturals (v ∷ vs)) ≡ None
before_end xs v vs e =
    ap (before xs) (opened v vs ∙ ap (λ o. then_some o (λ m. then_some (naturals vs) (λ ns. Some (m ∷ ns)))) e)

-- six numbers
pub too_few : (ns : List ℕ) → length ns < 6 → None ≡ named_moment ns
too_few [] h = refl
too_few (a ∷ []) h = refl
too_few (a ∷ b ∷ []) h = refl
too_few (a ∷ b ∷ c ∷ []) h = refl
too_few (a ∷ b ∷ c ∷ d ∷ []) h = refl
too_few (a ∷ b ∷ c ∷ d ∷ e ∷ []) h = refl
too_few (a ∷ b ∷ c ∷ d ∷ e ∷ f ∷ ns) h = absurd (omega (arith, h))

pub named_are : (ns : List ℕ) → 6 ≤ length ns →
    moment (slice_index ns 0) (slice_index ns 1) (slice_index ns 2) (slice_index ns 3) (slice_index ns 4)
    (slice_index ns 5) ≡ named_moment ns
named_are [] h = absurd (omega (arith, h))
named_are (a ∷ []) h = absurd (omega (arith, h))
named_are (a ∷ b ∷ []) h = absurd (omega (arith, h))
named_are (a ∷ b ∷ c ∷ []) h = absurd (omega (arith, h))
named_are (a ∷ b ∷ c ∷ d ∷ []) h = absurd (omega (arith, h))
named_are (a ∷ b ∷ c ∷ d ∷ e ∷ []) h = absurd (omega (arith, h))
named_are (a ∷ b ∷ c ∷ d ∷ e ∷ f ∷ ns) h = refl

-- the fields of a time
pub fields_are : (t w : ℕ) (d : Date) → d ≡ date (t / 86400) → w ≡ day_of_week t →
    d.year ∷ d.month ∷ d.day ∷ t / 3600 % 24 ∷ t / 60 % 60 ∷ t % 60 ∷ w ∷ d.day_of_year ∷ [] ≡ time_fields t
fields_are t w d e f =
    ap (λ (k : ℕ). d.year ∷ d.month ∷ d.day ∷ t / 3600 % 24 ∷ t / 60 % 60 ∷ t % 60 ∷ k ∷ d.day_of_year ∷ []) f
    ∙ ap (λ (c : Date). c.year ∷ c.month ∷ c.day ∷ t / 3600 % 24 ∷ t / 60 % 60 ∷ t % 60 ∷ day_of_week t ∷ c.day_of_year ∷ []) e
