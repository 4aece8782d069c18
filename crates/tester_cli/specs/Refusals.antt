-- The status that refuses bars. Own.
use Rattle.std.specs.Prelude.{◌≡◌, ℕ, List, Err}
use Rattle.price_rows.specs.Files.{bars_of_file}
use Rattle.tester_answer.specs.declared.status.Status.{Status}
use Rattle.tester_answer.specs.declared.status.Status.TheVariants.{Prices, OutOfMemory}

-- the status that refuses bars: the first row that breaks a rule, with the first rule that it breaks
abbrev pub BarsStatus : List ℕ → List ℕ → Status → Type 0
BarsStatus name bytes (Prices file row rule) = (bars_of_file bytes ≡ Err (row, rule)) × (file ≡ name)
BarsStatus name bytes OutOfMemory = Unit {0}
BarsStatus name bytes _ = ⊥
