-- The values of dates and colors, from their fields.
use Rattle.std.specs.Prelude.{ℕ, ◌+◌, ◌-◌, ◌*◌, ◌==◌, ◌&&◌, nat_lt, pos, List, [], ◌∷◌, Option, Some, None, option_and_then, if◌then◌else◌}
use Rattle.mql_spelling.specs.declared.marked.Day.{Day}
use Rattle.fx8.specs.Decimals.{is_digit}
use Rattle.jiff_core.specs.Calendar.{days_from_civil}
use Rattle.calendar.specs.Days.{is_day, second}
use Rattle.mql_spelling.specs.Value.{value_from}
use Rattle.mql_spelling.specs.Real.{digits_len, digits_front, digits_rest}

infixl 10 ◌>>=◌
abbrev pub ◌>>=◌ : {A B : Type 0} → Option A → (A → Option B) → Option B
o >>= f = option_and_then f o

-- what follows this unit
unfoldable pub behind_unit : ℕ → List ℕ → Option (List ℕ)
behind_unit v [] = None
behind_unit v (u ∷ us) = if u == v then Some us else None

-- a value where nothing follows
abbrev pub at_the_end : ℕ → List ℕ → Option ℕ
at_the_end n [] = Some n
at_the_end n (u ∷ us) = None

-- a part of a color: digits, a number of at most 255, and what follows (own)
unfoldable pub channel : List ℕ → Option (ℕ × List ℕ)
channel us =
    if digits_len us == 0 then None
    else if nat_lt 255 (value_from 10 0 (digits_front us)) then None
    else Some (value_from 10 0 (digits_front us), digits_rest us)

-- red, green and blue, parted by commas (MQL5 Reference, Color Type)
unfoldable pub color_value : List ℕ → Option ℕ
color_value us = do
  red ← channel us
  greens ← behind_unit 44 red.1
  green ← channel greens
  blues ← behind_unit 44 green.1
  blue ← channel blues
  at_the_end (red.0 + 256 * green.0 + 65536 * blue.0) blue.1

-- two digits, and what follows
unfoldable pub digit_pair : List ℕ → Option (ℕ × List ℕ)
digit_pair [] = None
digit_pair (a ∷ []) = None
digit_pair (a ∷ b ∷ us) = if is_digit a && is_digit b then Some (10 * (a - 48) + (b - 48), us) else None

-- year, month and day, parted by points (MQL5 Reference, Datetime Type)
unfoldable pub day_at : List ℕ → Option (Day × List ℕ)
day_at us = do
  century ← digit_pair us
  year ← digit_pair century.1
  months ← behind_unit 46 year.1
  month ← digit_pair months
  days ← behind_unit 46 month.1
  day ← digit_pair days
  Some (record { year = 100 * century.0 + year.0; month = month.0; day = day.0 }, day.1)

-- two digits and nothing more
unfoldable pub pair_end : List ℕ → Option ℕ
pair_end us = do
  found ← digit_pair us
  at_the_end found.0 found.1

-- seconds behind the minutes, or none (MQL5 Reference, Datetime Type)
unfoldable pub second_at : List ℕ → Option ℕ
second_at [] = Some 0
second_at (u ∷ us) = if u == 58 then pair_end us else None

-- the seconds of a day at a time of day
abbrev pub clock : ℕ → ℕ → ℕ → Option ℕ
clock hour minute second =
    if nat_lt hour 24 && (nat_lt minute 60 && nat_lt second 60)
    then Some (3600 * hour + 60 * minute + second)
    else None

unfoldable pub clock_at : List ℕ → Option ℕ
clock_at us = do
  hour ← digit_pair us
  minutes ← behind_unit 58 hour.1
  minute ← digit_pair minutes
  second ← second_at minute.1
  clock hour.0 minute.0 second

-- behind the day: a blank and the time, or nothing, which is midnight (MQL5 Reference, Datetime Type)
unfoldable pub time_at : List ℕ → Option ℕ
time_at [] = Some 0
time_at (u ∷ us) = if u == 32 then clock_at us else None

-- the seconds from the beginning of 1970 to that time of that day, of the years 1970 to 2999
-- (MQL5 Reference, Datetime Type; own for the last year)
unfoldable pub moment : Day → Option ℕ → Option ℕ
moment d None = None
moment d (Some time) =
    if is_day d.year d.month d.day
    then Some (second (days_from_civil (pos d.year) d.month d.day) time)
    else None

unfoldable pub date_value : List ℕ → Option ℕ
date_value us = day_at us >>= λ found. moment found.0 (time_at found.1)
