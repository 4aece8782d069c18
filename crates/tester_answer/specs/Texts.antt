-- The texts that the program writes. Own.
use Rattle.std.specs.Prelude.{ℕ, List, [], ◌∷◌, ◌++◌, codes}
use Rattle.std.specs.Fmt.{decimal}
use Rattle.mql_source.specs.declared.fault.SourceFault.{SourceFault}
use Rattle.tester_answer.specs.declared.status.Status.{Status}
use Rattle.tester_answer.specs.declared.status.Status.TheVariants.{Done, Usage, Source, Settings, Prices, CodeFile, Grid, Absent, ReadFault, WriteFault, TooLarge, OutOfMemory}

-- the number of a status, with which the program exits
abbrev pub status_number : Status → ℕ
status_number Done = 0
status_number (Usage rule) = 1
status_number (Source fault) = 2
status_number (Settings rule key) = 3
status_number (Prices file row rule) = 4
status_number (CodeFile rule place) = 5
status_number (Grid rule input) = 6
status_number (Absent name) = 7
status_number (ReadFault name) = 8
status_number WriteFault = 9
status_number (TooLarge name) = 10
status_number OutOfMemory = 11

-- the fields of a source's fault
abbrev pub source_fields : SourceFault → List (List ℕ)
source_fields fault = decimal fault.stage ∷ decimal fault.rule ∷ fault.file ∷ decimal fault.line ∷ []

-- the fields of a status in the order of its declaration, numbers in decimal and texts as their bytes
abbrev pub status_fields : Status → List (List ℕ)
status_fields Done = []
status_fields (Usage rule) = decimal rule ∷ []
status_fields (Source fault) = source_fields fault
status_fields (Settings rule key) = decimal rule ∷ key ∷ []
status_fields (Prices file row rule) = file ∷ decimal row ∷ decimal rule ∷ []
status_fields (CodeFile rule place) = decimal rule ∷ decimal place ∷ []
status_fields (Grid rule input) = decimal rule ∷ input ∷ []
status_fields (Absent name) = name ∷ []
status_fields (ReadFault name) = name ∷ []
status_fields WriteFault = []
status_fields (TooLarge name) = name ∷ []
status_fields OutOfMemory = []

-- each field after a blank
abbrev pub fields_line : List (List ℕ) → List ℕ
fields_line [] = []
fields_line (field ∷ fields) = 32 ∷ field ++ fields_line fields

-- `error`, the status's number and its fields
abbrev pub error_line : Status → List ℕ
error_line status = codes "error" ++ fields_line (decimal (status_number status) ∷ status_fields status)
    ++ 10 ∷ []

-- what standard error gets for a status: nothing where all was done, else the line that names it
abbrev pub fault_line : Status → List ℕ
fault_line Done = []
fault_line status = error_line status
