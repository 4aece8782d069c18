-- The day number of a day that the calendar has.
use Rattle.std.proofs.Common.{◌≡◌, ℕ, ◌<◌, ◌≤◌, ℤ, pos, true, refl, arith}
use Rattle.std.proofs.lemmas.Int.{ints, by_lt_z}
use Rattle.std.proofs.lemmas.Bool.{and_from, le-leb}
use Rattle.jiff_core.specs.Calendar.{IsDate, IsCivilDate, days_in_month, days_from_civil, day_count, day_of_year}
use Rattle.jiff_core.proofs.MarchLemmas.{day_count-early}
use Rattle.jiff_core.proofs.CalendarLemmas.{day_count-later_year, day_count-lt_year, day_count-day_of_year}
use Rattle.calendar.specs.Days.{is_day, IsDayNumber}

pub is_day_from : (year month day : ℕ) → 1970 ≤ year → year ≤ 2999 → IsDate (pos year) (pos month) (pos day) → is_day year month day ≡ true
is_day_from year month day from to d =
    let m : 1 ≤ month = omega (arith, ints, d.1.0) in
    let n : month ≤ 12 = omega (arith, ints, d.1.1) in
    let o : 1 ≤ day = omega (arith, ints, d.2.0) in
    let e : day ≤ days_in_month (pos year) month = omega (arith, ints, d.2.1) in
    and_from _ _ (and_from _ _ (and_from _ _ (and_from _ _ (and_from _ _ (le-leb 1970 year from) (le-leb year 2999 to)) (le-leb 1 month m)) (le-leb month 12 n)) (le-leb 1 day o)) (le-leb day (days_in_month (pos year) month) e)

pub same_day : (y : ℤ) (m d year month day : ℕ) → y ≡ pos year → pos m ≡ pos month → pos d ≡ pos day → days_from_civil y m d ≡ days_from_civil (pos year) month day
same_day y m d year month day e f g =
    let f' : m ≡ month = cc in
    let g' : d ≡ day = cc in
    rw (e, f', g') refl

-- the days before the years 1970 and 3000, from the year -10000 on
start_of_1970 : day_count (pos 1970) 1 1 ≡ 4_371_953
start_of_1970 = day_count-early _ 11969 1 1 refl (omega arith) (omega arith) (omega arith)

start_of_3000 : day_count (pos 3000) 1 1 ≡ 4_748_153
start_of_3000 = day_count-early _ 12999 1 1 refl (omega arith) (omega arith) (omega arith)

-- a year from 1970 on begins no earlier than 1970
not_before : (year : ℕ) → 1970 ≤ year → day_count (pos 1970) 1 1 ≤ day_count (pos year) 1 1
not_before year h = by_lt_z (pos 1970) (pos year)
    (λ lt. omega (arith, day_count-later_year (pos 1970) (pos year) (omega (arith, ints)) lt))
    (λ le. let e : year ≡ 1970 = omega (arith, ints) in rw e (omega arith))

-- a day is one of its year's days
first_day : (y : ℤ) (m d : ℕ) → 1 ≤ d → 1 ≤ day_of_year y m d
first_day y m d h = omega arith

civil_from : (year month day : ℕ) → IsDate (pos year) (pos month) (pos day) → IsCivilDate (pos year) month day
civil_from year month day d = (d.0, (omega (arith, ints, d.1.0), omega (arith, ints, d.1.1)), (omega (arith, ints, d.2.0), omega (arith, ints, d.2.1)))

pub day_range : (year month day : ℕ) → 1970 ≤ year → year ≤ 2999 → IsDate (pos year) (pos month) (pos day) → IsDayNumber (days_from_civil (pos year) month day)
unfolding days_from_civil
day_range year month day from to d =
    let c = civil_from year month day d in
    let low : day_count (pos 1970) 1 1 ≤ day_count (pos year) month day =
    omega (arith, not_before year from, day_count-day_of_year (pos year) month day c.2.0, first_day (pos year) month day c.2.0) in
    let high : day_count (pos year) month day < day_count (pos 3000) 1 1 = day_count-lt_year (pos year) month day (pos 3000) 1 1 c (omega arith) (omega (arith, ints)) in
    let high_is : day_count (pos year) month day < 4_748_153 = omega (arith, start_of_3000) in
    let low_is : 4_371_953 ≤ day_count (pos year) month day = omega (arith, start_of_1970) in
    record { from = omega (arith, ints, start_of_1970); to = omega (arith, ints, start_of_1970) }
