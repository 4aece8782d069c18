-- Code gives exactly what a program means.
use Rattle.std.specs.Prelude.{◌≡◌, ◌↔◌, ℕ, ℤ}
use Rattle.mql_meaning.specs.declared.tree.Checked.{Checked}
use Rattle.mql_meaning.specs.declared.tree.Entry.{Entry}
use Rattle.mql_meaning.specs.Runs.{World}
use Rattle.mql_meaning.specs.Means.{Outcome, means}
use Rattle.stack_code.specs.declared.code.Code.{Code}
use Rattle.stack_code.specs.Machine.{Gives}

-- at each event, with each argument, within each number of steps, from each world: the code has an outcome
-- exactly where it is the one that the program means
abbrev pub Follows : Checked → Code → Type 0
Follows p code =
    (e : Entry) (arg : ℤ) (n : ℕ) (w : World) (o : Outcome) → Gives code e arg n w o ↔ (means p e arg n w ≡ o)
