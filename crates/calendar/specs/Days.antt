-- Days, instants and seconds of the years 1970 to 2999, in the calendar of the library `jiff`.
use Rattle.std.specs.Prelude.{ℕ, ◌+◌, ◌*◌, Bool, ◌&&◌, nat_le, ℤ, pos, ◌+ℤ◌, ◌*ℤ◌, ◌≤ℤ◌, unsigned_abs}
use Rattle.jiff_core.specs.Calendar.{days_in_month}

-- a day that the calendar has, of the years 1970 to 2999
abbrev pub is_day : ℕ → ℕ → ℕ → Bool
is_day year month day = nat_le 1970 year && nat_le year 2999 && nat_le 1 month && nat_le month 12
    && nat_le 1 day && nat_le day (days_in_month (pos year) month)

-- the day number of a day from 1970.01.01 to 2999.12.31: days since 1970.01.01
pub record IsDayNumber (day : ℤ) : Type 0 where
  pub from : pos 0 ≤ℤ day
  pub to : day ≤ℤ pos 376199

-- the milliseconds since 1970.01.01 00:00 of a day and the milliseconds since its midnight
abbrev pub instant : ℤ → ℕ → ℤ
instant day ms = day *ℤ pos 86400000 +ℤ pos ms

-- the seconds since 1970.01.01 00:00 of a day from 1970 on and the seconds since its midnight
abbrev pub second : ℤ → ℕ → ℕ
second day clock = unsigned_abs day * 86400 + clock
