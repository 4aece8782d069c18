-- The report of a test. Own.
use Rattle.std.specs.Prelude.{◌≡◌, ℕ, List, [], ◌∷◌, ◌++◌, length, codes}
use Rattle.std.specs.Fmt.{decimal, signed_decimal}
use Rattle.mql_mean.specs.declared.error.ErrorKind.{ErrorKind}
use Rattle.mql_mean.specs.declared.error.ErrorKind.TheVariants.{ZeroDivide, ArrayRange, InvalidPointer, StackOverflow, FixedOverflow, CellsExhausted, PureCall, BadCast, PrintsExhausted, DealsExhausted, RequestsExhausted, MathDomain}
use Rattle.tester_pass.specs.declared.result.PassEnd.{PassEnd}
use Rattle.tester_pass.specs.declared.result.PassEnd.TheVariants as end
use Rattle.tester_pass.specs.declared.result.PassResult.{PassResult}
use Rattle.tester_world.specs.declared.printed.Printed.{Printed}
use Rattle.tester_world.specs.Journal.{shown_text}
use Rattle.report.specs.Times.{IsTimeText}

-- the name of a run error
abbrev pub error_name : ErrorKind → List ℕ
error_name ZeroDivide = codes "ZeroDivide"
error_name ArrayRange = codes "ArrayRange"
error_name InvalidPointer = codes "InvalidPointer"
error_name StackOverflow = codes "StackOverflow"
error_name FixedOverflow = codes "FixedOverflow"
error_name CellsExhausted = codes "CellsExhausted"
error_name PureCall = codes "PureCall"
error_name BadCast = codes "BadCast"
error_name PrintsExhausted = codes "PrintsExhausted"
error_name DealsExhausted = codes "DealsExhausted"
error_name RequestsExhausted = codes "RequestsExhausted"
error_name MathDomain = codes "MathDomain"

-- the word for the end of a pass; a run error has its name and its line
abbrev pub end_text : PassEnd → List ℕ
end_text end.Completed = codes "Completed"
end_text (end.InitFailed answer) = codes "InitFailed:" ++ signed_decimal answer
end_text end.Removed = codes "Removed"
end_text end.Exhausted = codes "Exhausted"
end_text end.Stopped = codes "Stopped"
end_text end.Stuck = codes "Stuck"
end_text (end.Error error) = codes "Error:" ++ error_name error.kind ++ 58 ∷ decimal error.line

-- a line of the journal of prints: its time, a blank and its text
pub record IsPrintLine (printed : Printed) (line : List ℕ) : Type 0 where
  pub time : List ℕ
  pub is_time : IsTimeText printed.time_ms time
  pub is : line ≡ time ++ 32 ∷ shown_text printed.text ++ 10 ∷ []

-- the lines of the journal of prints, one after another
abbrev pub ArePrintLines : List Printed → List ℕ → Type 0
ArePrintLines [] text = text ≡ []
ArePrintLines (printed ∷ more) text = (line rest : List ℕ) × IsPrintLine printed line
    × ArePrintLines more rest × (text ≡ line ++ rest)

-- the lines of the settings
unfoldable pub settings_lines : List ℕ
settings_lines = codes "report 1\nsymbol SYMBOL\nperiod M1\nmode open\n"

-- a line of a label and a number
unfoldable pub number_line : List ℕ → ℕ → List ℕ
number_line label n = label ++ decimal n ++ 10 ∷ []

unfoldable pub end_line : PassEnd → List ℕ
end_line end = codes "end " ++ end_text end ++ 10 ∷ []

-- the lines before those of the prints
unfoldable pub report_head : PassResult → List ℕ
report_head result =
    settings_lines ++ number_line (codes "quotes ") result.quotes ++ number_line (codes "loud ") result.loud
    ++ end_line result.end
    ++ number_line (codes "prints ") (length result.prints)

-- the report of a test at opening prices with the default settings
pub record IsReport (result : PassResult) (text : List ℕ) : Type 0 where
  pub prints : List ℕ
  pub are_prints : ArePrintLines result.prints prints
  pub is : text ≡ report_head result ++ prints
