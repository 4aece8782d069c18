-- What a call takes from operands, against the change that it stands for, which leaves the store.
use Rattle.std.specs.Prelude.{◌≡◌, Bool, List, map, Option, Some, None, Result, Ok, Err}
use Rattle.mql_meaning.specs.declared.store.Store.{Store}
use Rattle.mql_meaning.specs.Changes.{Change, ◌>>=◌, Done, Over, Stuck, give}
use Rattle.mql_meaning.specs.Operands.{Operand, on_one}
use Rattle.mql_meaning.specs.Dispatch.{condition}
use Rattle.store_frames.specs.declared.operand.Operand as code
use Rattle.store_frames.specs.Operands.{shown}
use Rattle.stack_code.specs.Machine.{Taken, beside, taking}
use Rattle.stack_machine.specs.declared.ends.Fault.{Fault}
use Rattle.stack_machine.specs.declared.ends.Fault.TheVariants as fault
use Rattle.stack_machine.specs.Ends.{as_ended}

-- a call takes operands as a change does, and leaves the rest
abbrev pub Takes : Result (List code.Operand) Fault → Change (Taken (List Operand)) → List Operand → Type 0
Takes (Ok xs) change rest = (store : Store) → change store ≡ Done (beside (map shown xs) rest) store
Takes (Err (fault.End e)) change rest = (store : Store) → change store ≡ Over (as_ended e) store
Takes (Err fault.OutOfMemory) change rest = Unit {0}

-- a call takes something as a change does, and leaves the rest; nothing is what validity excludes
abbrev pub Took : {A : Type 0} → Option A → Change (Taken A) → List Operand → Type 0
Took (Some a) change rest = (store : Store) → change store ≡ Done (beside a rest) store
Took None change rest = (store : Store) → change store ≡ Over Stuck store

-- a call tells what a change gives; nothing is what typing excludes
abbrev pub Tells : {A : Type 0} → Option A → Change A → Type 0
Tells (Some a) change = (store : Store) → change store ≡ Done a store
Tells None change = (store : Store) → change store ≡ Over Stuck store

-- a call leaves these operands
abbrev pub Gave : {A : Type 0} → Result A Fault → List Operand → List Operand → Type 0
Gave (Ok a) operands new = new ≡ operands
Gave (Err (fault.End e)) operands new = ⊥
Gave (Err fault.OutOfMemory) operands new = Unit {0}

-- a condition is taken
abbrev pub tested : List Operand → Change (Taken Bool)
tested ops = taking 1 ops >>= λ t. on_one condition t.it >>= λ b. give (beside b t.rest)
