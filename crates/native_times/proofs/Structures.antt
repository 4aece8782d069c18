-- TimeToStruct, of a time that has a date.
use Rattle.std.proofs.Common.{◌≡◌, ℕ, ℤ, Bool, true, false, List, Some, Result, unsigned_abs, sym, subst}
use Rattle.mql_meaning.specs.declared.cell.Cell.{Cell}
use Rattle.mql_meaning.specs.declared.store.Store.{Store}
use Rattle.mql_meaning.specs.Changes.{Change, either}
use Rattle.mql_meaning.specs.Dates.{has_date}
use Rattle.mql_meaning.specs.Natives.{Argument, NativeDone, a_cell, a_number, refuses, to_structure, truth_value, with_2}
use Rattle.store_cells.specs.declared.fault.Fault.{Fault}
use Rattle.native_arguments.specs.declared.done.NativeDone as code
use Rattle.native_arguments.specs.Arguments.{cell_in, number_in, read_2}
use Rattle.native_arguments.specs.Done.{Comes}
use Rattle.native_arguments.proofs.Shapes.{number_cell_some}
use Rattle.native_times.specs.Times.{becomes_fields}

pub becomes : (time : ℤ) (second : ℕ) (cell : Cell) (r : Result code.NativeDone Fault) (s : Store) →
    has_date time ≡ true → unsigned_abs time ≡ second → Comes (becomes_fields second cell s) r s →
    Comes (to_structure time cell s) r s
becomes time second cell r s d n h =
    subst (λ (b : Bool). Comes (either b (becomes_fields (unsigned_abs time) cell) (refuses (truth_value false)) s) r s)
    (sym d) (subst (λ (m : ℕ). Comes (becomes_fields m cell s) r s) (sym n) h)

pub number_cell_passed : (f : ℤ → Cell → Change NativeDone) (xs : List Argument) (u p : ℤ) (c : Cell)
    (r : Result code.NativeDone Fault) (s : Store) → read_2 number_in cell_in xs ≡ Some (u, c) → p ≡ u →
    Comes (f p c s) r s → Comes (with_2 a_number a_cell f xs s) r s
number_cell_passed f xs u p c r s e d h =
    number_cell_some f xs u c r s e (subst (λ (x : ℤ). Comes (f x c s) r s) d h)
