-- Arguments in range, and out of it.
use Rattle.std.proofs.Common.{◌≡◌, ℕ, ◌<◌, ◌≤◌, ◌*◌, ℤ, pos, negsuc, ◌<ℤ◌, ◌≤ℤ◌, Bool, true, false, List, [], drop, arith, Option, Some, None, Result, Err, refl, sym, ap, ◌∙◌, subst}
use Rattle.std.specs.Prelude.{nat_lt, unsigned_abs}
use Rattle.std.proofs.lemmas.Bool.Decides.{nat_tests}
use Rattle.std.proofs.lemmas.Int.{ints}
use Rattle.mql_mean.specs.declared.value.Value.{Value}
use Rattle.mql_meaning.specs.declared.store.Store.{Store}
use Rattle.mql_meaning.specs.Changes.{Change, Out, Done, Over, Stuck, after, either, the}
use Rattle.mql_meaning.specs.Dates.{has_date}
use Rattle.mql_meaning.specs.StringFunctions.{find_from}
use Rattle.mql_meaning.specs.Natives.{NativeDone, finds, gives, in_range, minus_one, whole}
use Rattle.store_cells.specs.declared.fault.Fault.{Fault}
use Rattle.store_cells.specs.declared.fault.Fault.TheVariants as fault
use Rattle.store_cells.specs.Changes.{Leads}
use Rattle.native_arguments.specs.declared.done.NativeDone as code
use Rattle.native_arguments.specs.Done.{Comes}

pub refused : {A : Type 0} (v : Value) (o : Option A) (f : A → Change NativeDone) (d : NativeDone) (s : Store) →
    o ≡ None → d ≡ record { value = v; outs = []; out_of_range = true } → in_range v o f s ≡ Done d s
refused v o f d s e h = ap (λ m. in_range v m f s) e ∙ ap (λ (n : NativeDone). Done n s) (sym h)

pub within : {A : Type 0} (v : Value) (o : Option A) (a : A) (f : A → Change NativeDone)
    (r : Result code.NativeDone Fault) (s : Store) → o ≡ Some a → Comes (f a s) r s → Comes (in_range v o f s) r s
within v o a f r s e h = subst (λ m. Comes (in_range v m f s) r s) (sym e) h

-- what follows an end is left out, and what follows a value goes on
pub stops : {A : Type 0} (out : Out A) (f : A → Change NativeDone) (why : Fault) (s : Store) →
    Leads {A = A} out (Err why) s → Comes (after out f) (Err why) s
stops out f (fault.End e) s h = ap (λ o. after o f) h
stops out f fault.OutOfMemory s h = tt

pub goes : {A : Type 0} (out : Out A) (a : A) (f : A → Change NativeDone) (r : Result code.NativeDone Fault)
    (s : Store) → out ≡ Done a s → Comes (f a s) r s → Comes (after out f) r s
goes out a f r s e h = subst (λ o. Comes (after o f) r s) (sym e) h

-- what is begun by the same
pub begun : {A : Type 0} (out other : Out A) (f : A → Change NativeDone) (r : Result code.NativeDone Fault)
    (s : Store) → out ≡ other → Comes (after other f) r s → Comes (after out f) r s
begun out other f r s e h = subst (λ o. Comes (after o f) r s) (sym e) h

-- what is there, and what is not
pub there : {A : Type 0} (o : Option A) (a : A) (f : A → Change NativeDone) (r : Result code.NativeDone Fault)
    (s : Store) → o ≡ Some a → Comes (f a s) r s → Comes (after (the o s) f) r s
there o a f r s e h = subst (λ m. Comes (after (the m s) f) r s) (sym e) h

pub not_there : {A : Type 0} (o : Option A) (f : A → Change NativeDone) (s : Store) → o ≡ None →
    after (the o s) f ≡ Over Stuck s
not_there o f s e = ap (λ m. after (the m s) f) e

-- the first of two changes, and the second
pub first_of_two : (b : Bool) (f g : Change NativeDone) (r : Result code.NativeDone Fault) (s : Store) → b ≡ true →
    Comes (f s) r s → Comes (either b f g s) r s
first_of_two b f g r s e h = subst (λ c. Comes (either c f g s) r s) (sym e) h

pub second_of_two : (b : Bool) (f g : Change NativeDone) (r : Result code.NativeDone Fault) (s : Store) → b ≡ false →
    Comes (g s) r s → Comes (either b f g s) r s
second_of_two b f g r s e h = subst (λ c. Comes (either c f g s) r s) (sym e) h

-- StringFind
pub found : (text part : List ℕ) (start i : ℕ) (r : Result code.NativeDone Fault) (s : Store) →
    find_from start part (drop start text) ≡ Some i → Comes (gives (whole i) s) r s →
    Comes (finds text part start s) r s
found text part start i r s e h = rw e h

pub not_found : (text part : List ℕ) (start : ℕ) (r : Result code.NativeDone Fault) (s : Store) →
    find_from start part (drop start text) ≡ None → Comes (gives minus_one s) r s →
    Comes (finds text part start s) r s
not_found text part start r s e h = rw e h

-- times that have a date
lt_true : (m n : ℕ) → m < n → nat_lt m n ≡ true
lt_true m n h = grind (arith, nat_tests)

lt_false : (m n : ℕ) → n ≤ m → nat_lt m n ≡ false
lt_false m n h = grind (arith, nat_tests)

pub undated : (t : ℤ) → t <ℤ pos 0 → has_date t ≡ false
undated (negsuc t) h = refl
undated (pos t) h = absurd (omega (arith, ints, h))

pub too_late : (t : ℤ) → 376200 * 86400 ≤ unsigned_abs t → has_date t ≡ false
too_late (negsuc t) h = refl
too_late (pos t) h = lt_false t (376200 * 86400) h

pub dated : (t : ℤ) → pos 0 ≤ℤ t → unsigned_abs t < 376200 * 86400 → has_date t ≡ true
dated (negsuc t) g h = absurd (omega (arith, ints, g))
dated (pos t) g h = lt_true t (376200 * 86400) h
