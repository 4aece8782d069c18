-- What a call does to the operands of a running machine and to the store.
use Rattle.std.specs.Prelude.{◌≡◌, ℕ, List, [], map, Option, Some, None, Result, Ok, Err}
use Rattle.mql_meaning.specs.declared.operator.Operator.{Operator}
use Rattle.mql_meaning.specs.declared.store.Store.{Store}
use Rattle.mql_meaning.specs.declared.tree.Class.{Class}
use Rattle.mql_meaning.specs.Apply.{apply}
use Rattle.mql_meaning.specs.Changes.{Change, ◌>>=◌}
use Rattle.mql_meaning.specs.Operands as meaning
use Rattle.store_cells.specs.declared.fault.Fault.{Fault}
use Rattle.store_cells.specs.Changes.{Does}
use Rattle.store_frames.specs.declared.operand.Operand.{Operand}
use Rattle.store_frames.specs.Operands.{shown}
use Rattle.stack_code.specs.Machine.{taking, takes, beside, then_upon}

-- operands as those of the meaning
abbrev pub all_shown : List Operand → List meaning.Operand
all_shown ops = map shown ops

-- the operands that a call leaves, where it comes to its end
abbrev pub leaving : Result (Unit {0}) Fault → List Operand → Result (List meaning.Operand) Fault
leaving (Ok u) ops = Ok (all_shown ops)
leaving (Err f) ops = Err f

-- a call does to the operands, the topmost first, and to the store what a change does; where there was no
-- memory nothing is said of them
abbrev pub Works :
    (List meaning.Operand → Change (List meaning.Operand)) → Result (Unit {0}) Fault → List Operand
    → List Operand → Store → Store → Type 0
Works effect result ops ops' store store' = Does (effect (all_shown ops)) (leaving result ops') store store'

-- so many operands are taken, and what an operator gives of them stands in their place
abbrev pub applies : ℕ → List Class → Operator → List meaning.Operand → Change (List meaning.Operand)
applies c classes o ops = taking c ops >>= λ t. then_upon (apply classes o t.it) t.rest

-- so many operands that are taken, the last of them topmost, and those that are left; none where there are
-- fewer
abbrev pub Takes : ℕ → Option (List Operand) → List Operand → List Operand → Type 0
Takes c None ops ops' = takes c (all_shown ops) [] ≡ None
Takes c (Some xs) ops ops' = takes c (all_shown ops) [] ≡ Some (beside (all_shown xs) (all_shown ops'))
