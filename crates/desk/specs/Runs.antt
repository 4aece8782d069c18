-- What a call that does acts leaves of the books (own).
use Rattle.std.specs.Prelude.{◌≡◌, true, false, Result, Ok, Err}
use Rattle.desk.specs.declared.fault.DeskFault.{DeskFault}
use Rattle.desk.specs.declared.fault.DeskFault.TheVariants as desk_fault
use Rattle.desk.specs.Books.{Kept}
use Rattle.desk.specs.Effect.{Run}

-- books whose journal is that of a run
abbrev pub after_run : Run → Kept → Kept
after_run run b = record b { quoted = record b.quoted { events = run.events } }

-- what such a call answers and leaves: the run's journal; `DealsExhausted` exactly where the run is full, and
-- what was done before the deal that finds no room stands
abbrev pub Runs : {A : Type 0} → Kept → Run → Result A DeskFault → Kept → Type 0
Runs b run (Ok a) b' = (run.full ≡ false) × (b' ≡ after_run run b)
Runs b run (Err desk_fault.DealsExhausted) b' = (run.full ≡ true) × (b' ≡ after_run run b)
Runs b run (Err desk_fault.RequestsExhausted) b' = ⊥
Runs b run (Err desk_fault.OutOfMemory) b' = b'.broken ≡ true
