-- What a call answered, and what is read.
use Rattle.std.specs.Prelude.{◌≡◌, Option, Some, None, Result, Ok, Err}
use Rattle.mql_syntax.specs.declared.unread.Unread.{Unread}
use Rattle.mql_syntax.specs.declared.unread.Unread.TheVariants.{Nothing, OutOfMemory}

-- what a call answered shows as what is read, or nothing is read, unless there was no memory
abbrev pub Shows : {A B : Type 0} → (A → B) → Result A Unread → Option B → Type 0
Shows show (Ok a) wanted = wanted ≡ Some (show a)
Shows show (Err Nothing) wanted = wanted ≡ None
Shows show (Err OutOfMemory) wanted = Unit {0}

-- what a call answered is what is read
abbrev pub Reads : {A : Type 0} → Result A Unread → Option A → Type 0
Reads (Ok a) wanted = wanted ≡ Some a
Reads (Err Nothing) wanted = wanted ≡ None
Reads (Err OutOfMemory) wanted = Unit {0}
