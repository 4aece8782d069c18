-- Arrays that get elements.
use Rattle.std.proofs.Common.{◌≡◌, ℕ, ℤ, pos, negsuc, true, [], Some, None, Result, refl, sym, ap, subst}
use Rattle.mql_meaning.specs.declared.cell.Cell.{Cell}
use Rattle.mql_meaning.specs.declared.store.Store.{Store}
use Rattle.mql_meaning.specs.Changes.{Out, Done, Over, Stuck}
use Rattle.mql_meaning.specs.ArrayFunctions.{ArrayParts, array_of, leaves}
use Rattle.mql_meaning.specs.Natives.{NativeDone, copies, minus_one, resizes}
use Rattle.store_cells.specs.declared.fault.Fault.{Fault}
use Rattle.native_arguments.specs.declared.done.NativeDone as code
use Rattle.native_arguments.specs.Done.{Comes}
use Rattle.native_array_functions.specs.Parts.{copy_into, place_from}

copies_to : (target source : Cell) (a : ArrayParts) (at start count : ℤ) (s : Store) →
    array_of target ≡ Some a →
    copies target source at start count s ≡ copy_into a (leaves source) at start count s
copies_to target source a (pos i) start count s e = rw e refl
copies_to target source a (negsuc i) start count s e = rw e refl

pub copies_none : (target source : Cell) (at start count : ℤ) (s : Store) → array_of target ≡ None →
    copies target source at start count s ≡ Over Stuck s
copies_none target source at start count s e = rw e refl

pub copies_some : (target source : Cell) (a : ArrayParts) (at start count : ℤ)
    (r : Result code.NativeDone Fault)
    (s : Store) → array_of target ≡ Some a → Comes (copy_into a (leaves source) at start count s) r s →
    Comes (copies target source at start count s) r s
copies_some target source a at start count r s e h =
    subst (λ (o : Out NativeDone). Comes o r s) (sym (copies_to target source a at start count s e)) h

-- how many places an array gets
pub no_size : (a : ArrayParts) (x : ℤ) (d : NativeDone) (s : Store) → place_from x ≡ None →
    d ≡ record { value = minus_one; outs = []; out_of_range = true } → resizes a x s ≡ Done d s
no_size a (pos n) d s e h = absurd cc
no_size a (negsuc n) d s e h = ap (λ (c : NativeDone). Done c s) (sym h)

pub some_size : (a : ArrayParts) (x : ℤ) (n : ℕ) (r : Result code.NativeDone Fault) (s : Store) →
    place_from x ≡ Some n → Comes (resizes a (pos n) s) r s → Comes (resizes a x s) r s
some_size a (pos m) n r s e h =
    let same : m ≡ n = cc in
    subst (λ (k : ℕ). Comes (resizes a (pos k) s) r s) (sym same) h
some_size a (negsuc m) n r s e h = absurd cc
