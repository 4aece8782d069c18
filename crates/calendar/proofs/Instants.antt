-- Milliseconds and nanoseconds.
use Rattle.std.proofs.Common.{◌≡◌, ℕ, ◌+◌, ◌*◌, ◌/◌, ◌%◌, ◌<◌, ◌≤◌, ℤ, pos, negsuc, to_z, w8, w16, w32, subst, ◌*ℤ◌, ◌≤ℤ◌, sym, ap, ◌∙◌, arith}
use Rattle.std.proofs.lemmas.Int.{ints}
use Rattle.std.specs.Prelude.{int_div, unsigned_abs}
use Rattle.jiff_core.specs.declared.civil.time.Time.{Time}
use Rattle.jiff_core.specs.declared.civil.datetime.DateTime.{DateTime}
use Rattle.jiff_core.specs.declared.civil.date.Date.{Date}
use Rattle.jiff_core.specs.Time.{time_nanos, IsHms}
use Rattle.jiff_core.specs.Date.{epoch_day, IsYmd}
use Rattle.jiff_core.specs.Calendar.{IsDate, days_from_civil}
use Rattle.calendar.proofs.Days.{day_range, same_day}
use Rattle.jiff_core.specs.DateTime.{civil_nanos}
use Rattle.calendar.specs.Days.{instant, second, IsDayNumber}

hms_sum : (s : ℕ) → s / 3600 * 3600 + s / 60 % 60 * 60 + s % 60 ≡ s
hms_sum s = omega arith

pub nanos_is : (t : Time) (ms : ℕ) → ms < 86400000
    → IsHms (to_z w8 (ms / 1000 / 3600)) (to_z w8 (ms / 1000 / 60 % 60)) (to_z w8 (ms / 1000 % 60)) (to_z w32 (ms % 1000 * 1000000)) t
    → time_nanos t ≡ ms * 1000000
nanos_is t ms h p =
    let hour : t.hour ≡ ms / 1000 / 3600 = omega (arith, ints, p.0) in
    let minute : t.minute ≡ ms / 1000 / 60 % 60 = omega (arith, ints, p.1) in
    let second : t.second ≡ ms / 1000 % 60 = omega (arith, ints, p.2) in
    let rest : t.subsec_nanosecond ≡ ms % 1000 * 1000000 = omega (arith, ints, p.3) in
    let whole : t.hour * 3600 + t.minute * 60 + t.second ≡ ms / 1000 = rw (hour, minute, second) (hms_sum (ms / 1000)) in
    omega (arith, whole, rest)

pub civil_is : (dt : DateTime) (d : Date) (ms : ℕ) → dt.date ≡ d → time_nanos dt.time ≡ ms * 1000000 → civil_nanos dt ≡ instant (epoch_day d) ms *ℤ pos 1000000
unfolding civil_nanos
civil_is dt d ms e n = rw (e, n) (omega (arith, ints))

quot_pos : (k : ℕ) → k * 1000000 / 1000000 ≡ k
quot_pos k = omega arith

pub quot_back : (x y : ℤ) → pos 0 ≤ℤ x → y ≡ x *ℤ pos 1000000 → int_div y (pos 1000000) ≡ x
quot_back (negsuc k) y h e = absurd (omega (arith, ints))
quot_back (pos k) y h e = rw e (ap pos (quot_pos k))

pub instant_from : (d : ℤ) (ms : ℕ) → IsDayNumber d → ms < 86400000 → (pos 0 ≤ℤ instant d ms) × (instant d ms ≤ℤ pos 32503679999999)
instant_from d ms p h = (omega (arith, ints, p.from), omega (arith, ints, p.to))

pub nanos_all : (dt : DateTime) (d : Date) (t : Time) (ms : ℕ) → ms < 86400000
    → IsHms (to_z w8 (ms / 1000 / 3600)) (to_z w8 (ms / 1000 / 60 % 60)) (to_z w8 (ms / 1000 % 60)) (to_z w32 (ms % 1000 * 1000000)) t
    → dt.date ≡ d → dt.time ≡ t → civil_nanos dt ≡ instant (epoch_day d) ms *ℤ pos 1000000
nanos_all dt d t ms h p e f = civil_is dt d ms e (ap time_nanos f ∙ nanos_is t ms h p)

-- parts that are written with few digits keep their value in narrow types
pub can_from : (year month day : ℕ) → year ≤ 2999 → month ≤ 12 → day ≤ 31 → IsDate (to_z w16 year) (to_z w8 month) (to_z w8 day) → IsDate (pos year) (pos month) (pos day)
can_from year month day h m d can =
    let y : to_z w16 year ≡ pos year = omega (arith, ints) in
    let mo : to_z w8 month ≡ pos month = omega (arith, ints) in
    let da : to_z w8 day ≡ pos day = omega (arith, ints) in
    subst (λ (x : ℤ). IsDate x (pos month) (pos day)) y (subst (λ (x : ℤ). IsDate (to_z w16 year) x (pos day)) mo (subst (λ (x : ℤ). IsDate (to_z w16 year) (to_z w8 month) x) da can))

pub day_from : (date : Date) (year month day : ℕ) → year ≤ 2999 → month ≤ 12 → day ≤ 31 → IsYmd (to_z w16 year) (to_z w8 month) (to_z w8 day) date → epoch_day date ≡ days_from_civil (pos year) month day
day_from date year month day h m d v =
    let y : to_z w16 year ≡ pos year = omega (arith, ints) in
    let mo : to_z w8 month ≡ pos month = omega (arith, ints) in
    let da : to_z w8 day ≡ pos day = omega (arith, ints) in
    same_day date.year date.month date.day year month day (v.0 ∙ y) (v.1 ∙ mo) (v.2 ∙ da)

pub range_from : (date : Date) (year month day : ℕ) → 1970 ≤ year → year ≤ 2999 → epoch_day date ≡ days_from_civil (pos year) month day → IsDate (pos year) (pos month) (pos day) → IsDayNumber (epoch_day date)
range_from date year month day from to e can = subst (λ (z : ℤ). IsDayNumber z) (sym e) (day_range year month day from to can)

second_on : (n s : ℕ) → s < 86400 → (n * 86400000 + 1000 * s) / 1000 ≡ n * 86400 + s
second_on n s h = omega arith

-- the second of an instant
pub second_is : (d : ℤ) (s : ℕ) → s < 86400 → pos 0 ≤ℤ instant d (1000 * s) → unsigned_abs (instant d (1000 * s)) / 1000 ≡ second d s
second_is (negsuc d) s h p = absurd (omega (arith, ints, p))
second_is (pos d) s h p = second_on d s h
