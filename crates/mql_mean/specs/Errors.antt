-- The errors that end a run.
use Rattle.std.specs.Prelude.{ℕ}
use Rattle.mql_mean.specs.declared.error.ErrorKind.{ErrorKind}
use Rattle.mql_mean.specs.declared.error.ErrorKind.TheVariants.{ZeroDivide, ArrayRange, InvalidPointer, StackOverflow, FixedOverflow, CellsExhausted, PureCall, BadCast, PrintsExhausted, DealsExhausted, RequestsExhausted, MathDomain}

-- an error's number (own)
abbrev pub error_number : ErrorKind → ℕ
error_number ZeroDivide = 1
error_number ArrayRange = 2
error_number InvalidPointer = 3
error_number StackOverflow = 4
error_number FixedOverflow = 5
error_number CellsExhausted = 6
error_number PureCall = 7
error_number BadCast = 8
error_number PrintsExhausted = 9
error_number DealsExhausted = 10
error_number RequestsExhausted = 11
error_number MathDomain = 12
