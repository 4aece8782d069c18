-- A day as the code has it.
use Rattle.mql_meaning.specs.Dates.{Date}
use Rattle.native_conversions.specs.declared.dates.Day as own

abbrev pub date_of : own.Day → Date
date_of d = record { year = d.year; month = d.month; day = d.day; day_of_year = d.day_of_year }
