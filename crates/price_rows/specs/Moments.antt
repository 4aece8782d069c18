-- Dates and times as a price file writes them, in the calendar of the library `jiff`.
use Rattle.std.specs.Prelude.{ℕ, ◌+◌, ◌*◌, List, [], ◌∷◌, Option, Some, None, option_map, ℤ, pos, ◌+ℤ◌, ◌*ℤ◌}
use Rattle.jiff_core.specs.Calendar.{days_from_civil}
use Rattle.calendar.specs.Days.{is_day, instant}
use Rattle.price_rows.specs.Numbers.{whole_of}
use Rattle.decimals.specs.Texts.{given, provided, parts}

-- three parts, and no more
abbrev pub three : List (List ℕ) → Option (List ℕ × List ℕ × List ℕ)
three (first ∷ second ∷ third ∷ []) = Some (first, second, third)
three other = None

-- the day number of a day: days since 1970.01.01
abbrev pub day_number : ℕ → ℕ → ℕ → Option ℤ
day_number year month day = provided (is_day year month day) (days_from_civil (pos year) month day)

-- the day number of the parts of a date
abbrev pub day_of : List ℕ → List ℕ → List ℕ → Option ℤ
day_of y m d =
    given (whole_of 4 2999 y) (λ year. given (whole_of 2 12 m) (λ month. given (whole_of 2 31 d) (λ day.
    day_number year month day)))

-- the day number of a date such as 2020.01.02
abbrev pub date_of : List ℕ → Option ℤ
date_of date = given (three (parts 46 date)) (λ p. day_of p.0 p.1 p.2)

-- the milliseconds of seconds such as 07 or 07.125, in the parts round the point
abbrev pub seconds_of_parts : List (List ℕ) → Option ℕ
seconds_of_parts [] = None
seconds_of_parts (s ∷ []) = option_map (λ n. n * 1000) (whole_of 2 59 s)
seconds_of_parts (s ∷ f ∷ []) =
    given (whole_of 2 59 s) (λ n. given (whole_of 3 999 f) (λ ms. Some (n * 1000 + ms)))
seconds_of_parts (s ∷ f ∷ more ∷ most) = None

-- the milliseconds since midnight of the parts of a time
abbrev pub clock_of : List ℕ → List ℕ → List ℕ → Option ℕ
clock_of h m s =
    given (whole_of 2 23 h) (λ hours. given (whole_of 2 59 m)
    (λ minutes. given (seconds_of_parts (parts 46 s))
    (λ ms. Some (hours * 3600000 + minutes * 60000 + ms))))

-- the milliseconds since midnight of a time such as 10:00:00 or 10:00:00.100
abbrev pub time_of : List ℕ → Option ℕ
time_of time = given (three (parts 58 time)) (λ p. clock_of p.0 p.1 p.2)

-- when a tick came, in milliseconds since 1970.01.01 00:00
abbrev pub moment : List ℕ → List ℕ → Option ℤ
moment date time = given (time_of time) (λ ms. given (date_of date) (λ day. Some (instant day ms)))

-- the minutes since midnight of the parts of a time whose seconds are 00
abbrev pub minutes_of : List ℕ → List ℕ → List ℕ → Option ℕ
minutes_of h m s =
    given (whole_of 2 23 h) (λ hours. given (whole_of 2 59 m) (λ minutes. given (whole_of 2 0 s)
    (λ none. Some (hours * 60 + minutes))))

-- the minutes since midnight of a time such as 10:00:00
abbrev pub minute_time : List ℕ → Option ℕ
minute_time time = given (three (parts 58 time)) (λ p. minutes_of p.0 p.1 p.2)

-- when a bar opens, in seconds since 1970.01.01 00:00
abbrev pub minute : List ℕ → List ℕ → Option ℤ
minute date time = given (minute_time time)
    (λ m. given (date_of date) (λ day. Some (day *ℤ pos 86400 +ℤ pos (m * 60))))
