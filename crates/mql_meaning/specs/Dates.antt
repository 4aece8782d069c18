-- Days, times of day and their texts (MQL5 Reference, Language Basics, Datetime Type; Date and Time). A
-- `datetime` is a number of seconds since 1970.01.01 00:00.
use Rattle.std.specs.Prelude.{ℕ, zero, suc, ◌+◌, ◌-◌, ◌*◌, ◌/◌, ◌%◌, ◌&&◌, nat_lt, Bool, true, false, List, [], ◌∷◌, ◌++◌, ℤ, pos, negsuc, Option, Some, None}
use Rattle.jiff_core.specs.Calendar.{days_in_year, days_in_month, days_from_civil}
use Rattle.calendar.specs.Days.{is_day, second}

-- a day of the calendar; months and days from 1, the day of the year from 0
pub record Date : Type 0 where
  pub year : ℕ
  pub month : ℕ
  pub day : ℕ
  pub day_of_year : ℕ

-- the month and the day of a day of a year, days counted from 0: from this month on, of at most so many
abbrev pub in_month : ℕ → ℕ → ℕ → ℕ → ℕ → Date
in_month zero year of_year month d = record { year = year; month = month; day = d + 1; day_of_year = of_year }
in_month (suc months) year of_year month d = elim (nat_lt d (days_in_month (pos year) month)) [
  | true ↦ record { year = year; month = month; day = d + 1; day_of_year = of_year }
  | false ↦ in_month months year of_year (month + 1) (d - days_in_month (pos year) month)
]

-- the day that is so many days after the first day of a year, which is in one of at most so many years
abbrev pub in_year : ℕ → ℕ → ℕ → Date
in_year zero year d = in_month 11 year d 1 d
in_year (suc years) year d = elim (nat_lt d (days_in_year (pos year))) [
  | true ↦ in_month 11 year d 1 d
  | false ↦ in_year years (year + 1) (d - days_in_year (pos year))
]

-- the day of a day number of the years 1970 to 2999
abbrev pub date : ℕ → Date
date day = in_year 1029 1970 day

-- a second of the years 1970 to 2999, the only ones that have a date
abbrev pub has_date : ℤ → Bool
has_date (pos t) = nat_lt t (376200 * 86400)
has_date (negsuc t) = false

-- two digits, and four
abbrev pub two_digits : ℕ → List ℕ
two_digits n = (48 + n / 10 % 10) ∷ (48 + n % 10) ∷ []

abbrev pub four_digits : ℕ → List ℕ
four_digits n = two_digits (n / 100) ++ two_digits n

-- `yyyy.mm.dd`, `hh:mm` and `hh:mm:ss` of a second
abbrev pub date_text : Date → List ℕ
date_text d = four_digits d.year ++ (46 ∷ two_digits d.month) ++ (46 ∷ two_digits d.day)

abbrev pub day_text : ℕ → List ℕ
day_text t = date_text (date (t / 86400))

abbrev pub minute_text : ℕ → List ℕ
minute_text t = two_digits (t / 3600 % 24) ++ (58 ∷ two_digits (t / 60 % 60))

abbrev pub second_text : ℕ → List ℕ
second_text t = minute_text t ++ (58 ∷ two_digits (t % 60))

-- a date and a time of day
abbrev pub moment_text : ℕ → List ℕ
moment_text t = day_text t ++ (32 ∷ second_text t)

-- the day of the week: Sunday is 0, and 1970.01.01 was a Thursday
abbrev pub day_of_week : ℕ → ℕ
day_of_week t = (t / 86400 + 4) % 7

-- the second of a date and a time of day, where the years 1970 to 2999 have it
abbrev pub moment : ℕ → ℕ → ℕ → ℕ → ℕ → ℕ → Option ℕ
moment year month day hour minute sec =
    elim (is_day year month day && nat_lt hour 24 && nat_lt minute 60 && nat_lt sec 60) [
      | true ↦ Some (second (days_from_civil (pos year) month day) (hour * 3600 + minute * 60 + sec))
      | false ↦ None
    ]
