-- What a run of the books is to the desk.
use Rattle.std.proofs.Common.{◌≡◌, ◌∙◌, ℕ, ◌≤◌, Bool, false, Result, Ok, Err, ap, sym}
use Rattle.desk.specs.declared.fault.DeskFault.{DeskFault}
use Rattle.desk.specs.declared.fault.DeskFault.TheVariants as desk_fault
use Rattle.desk.specs.Books.{Kept}
use Rattle.desk.specs.Effect.{Run}
use Rattle.desk.specs.Quotes.{Leaves}
use Rattle.desk.specs.Runs.{Runs}
use Rattle.desk.specs.State.{DeskState}
use Rattle.desk.specs.Tickets.{last_order}

-- a desk of books
abbrev pub desk_of : Kept → ℕ → DeskState
desk_of b requests = record { quoted = b.quoted; requests = requests; closed = b.broken }

-- what the desk answers and leaves
pub desk_leaves : (a : DeskState) (b b' : Kept) (run : Run) (r : Result (Unit {0}) DeskFault) → a.closed ≡ b.broken → Runs b run r b' → Leaves b.quoted run a r (desk_of b' a.requests)
desk_leaves a b b' run (Ok x) e h = (h.0, ap (λ (c : Kept). desk_of c a.requests) h.1 ∙ ap (λ (z : Bool). closed_so z) (sym e))
  where
    closed_so : Bool → DeskState
    closed_so z = record { quoted = record b.quoted { events = run.events }; requests = a.requests; closed = z }
desk_leaves a b b' run (Err desk_fault.DealsExhausted) e h = (h.0, ap (λ (c : Kept). desk_of c a.requests) h.1 ∙ ap (λ (z : Bool). closed_so z) (sym e))
  where
    closed_so : Bool → DeskState
    closed_so z = record { quoted = record b.quoted { events = run.events }; requests = a.requests; closed = z }
desk_leaves a b b' run (Err desk_fault.RequestsExhausted) e h = absurd h
desk_leaves a b b' run (Err desk_fault.OutOfMemory) e h = h

-- a run that takes no ticket keeps that no more were taken than there were requests
pub few_taken : (b b' : Kept) (requests : ℕ) (run : Run) (r : Result (Unit {0}) DeskFault) → Runs b run r b' → last_order run.events ≤ requests → b'.broken ≡ false → last_order b'.quoted.events ≤ requests
few_taken b b' requests run (Ok x) h l e = rw h.1 l
few_taken b b' requests run (Err desk_fault.DealsExhausted) h l e = rw h.1 l
few_taken b b' requests run (Err desk_fault.RequestsExhausted) h l e = absurd h
few_taken b b' requests run (Err desk_fault.OutOfMemory) h l e = absurd (cc)
