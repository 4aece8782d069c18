-- How a time is written, on the calendar and the clock of `jiff`. Own, in the form of MQL5 Reference,
-- Conversion Functions, TimeToString.
use Rattle.std.specs.Prelude.{◌≡◌, ℕ, ℤ, pos, ◌+◌, ◌/◌, ◌%◌, ◌*ℤ◌, List, [], ◌∷◌, ◌++◌, unsigned_abs, ◌≤ℤ◌, ◌<ℤ◌}
use Rattle.jiff_core.specs.declared.civil.date.Date.{Date}
use Rattle.jiff_core.specs.declared.civil.time.Time.{Time}
use Rattle.jiff_core.specs.declared.civil.datetime.DateTime.{DateTime}
use Rattle.jiff_core.specs.DateTime.{civil_nanos}

-- a digit of a number: that of the ones for 1, of the tens for 10, and so on
abbrev pub digit : ℕ → ℕ → ℕ
digit place n = 48 + n / place % 10

unfoldable pub two_digits : ℕ → List ℕ
two_digits n = digit 10 n ∷ digit 1 n ∷ []

unfoldable pub three_digits : ℕ → List ℕ
three_digits n = digit 100 n ∷ two_digits n

unfoldable pub four_digits : ℕ → List ℕ
four_digits n = digit 1000 n ∷ three_digits n

-- `yyyy.mm.dd`
unfoldable pub date_text : Date → List ℕ
date_text date = four_digits (unsigned_abs date.year) ++ 46 ∷ two_digits date.month
    ++ 46 ∷ two_digits date.day

-- `hh:mm:ss.mmm`
unfoldable pub clock_text : Time → List ℕ
clock_text time =
    two_digits time.hour ++ 58 ∷ two_digits time.minute ++ 58 ∷ two_digits time.second
    ++ 46 ∷ three_digits (time.subsec_nanosecond / 1000000)

-- the text of a time in milliseconds since 1970: the date that the calendar has then, a blank and its clock
pub record IsTimeText (time : ℤ) (text : List ℕ) : Type 0 where
  pub at : DateTime
  pub is_at : civil_nanos at ≡ time *ℤ pos 1000000
  pub written : text ≡ date_text at.date ++ 32 ∷ clock_text at.time

-- a time that a report may have: one of the years 1970 to 2999, in milliseconds
pub record IsReportTime (time : ℤ) : Type 0 where
  pub from_1970 : pos 0 ≤ℤ time
  pub to_2999 : time <ℤ pos 32503680000000
