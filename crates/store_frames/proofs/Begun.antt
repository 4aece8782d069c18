-- Locals that begin anew.
use Rattle.std.proofs.Common.{◌≡◌, ℕ, suc, ◌+◌, ◌-◌, ◌<◌, List, ◌∷◌, length, get_or, take, drop, refl, sym, ap, ◌∙◌, arith}
use Rattle.std.specs.Prelude.{true, Err}
use Rattle.std.proofs.lemmas.List.{drop_more}
use Rattle.mql_meaning.specs.declared.place.Place.{Place}
use Rattle.mql_meaning.specs.declared.store.Store.{Store}
use Rattle.mql_meaning.specs.declared.tree.Class.{Class}
use Rattle.mql_meaning.specs.declared.types.VarType.{VarType}
use Rattle.mql_meaning.specs.Cells.{zero_of}
use Rattle.mql_meaning.specs.Changes.{Change, Out, Done, Over, after}
use Rattle.mql_meaning.specs.Frames.{reset, reset_one}
use Rattle.mql_meaning.specs.Objects.{for_variable, new_object, object_class}
use Rattle.mql_meaning.specs.Places.{cell_at, local_place, replace}
use Rattle.store_cells.specs.Changes.{Leads}
use Rattle.store_cells.specs.declared.fault.Fault.{Fault}
use Rattle.store_cells.specs.declared.fault.Fault.TheVariants as fault
use Rattle.store_places.specs.Puts.{put_at}
use Rattle.store_frames.specs.Resets.{reset_local}

regrouped : {A B C : Type 0} (out : Out A) (f : A → Change B) (g : B → Change C) →
    after out (λ (a : A) (s : Store). after (f a s) g) ≡ after (after out f) g
regrouped (Done a s) f g = refl
regrouped (Over e s) f g = refl

-- a variable is put as zero, and then gets its object
pub one_anew : (classes : List Class) (t : VarType) (p : Place) (store : Store) →
    reset_one classes t p store
    ≡ after (put_at (zero_of classes t) p store) (λ _. for_variable (new_object classes true) (object_class t) p)
one_anew classes t p store =
    regrouped (cell_at p store) (λ old. replace p old (zero_of classes t))
    (λ _. for_variable (new_object classes true) (object_class t) p)

-- the types of the locals from one to before the end
abbrev some_of : ℕ → ℕ → List VarType → List VarType
some_of end local locals = take (end - local) (drop local locals)

first_of : (end local : ℕ) (locals : List VarType) (t : VarType) → local < end → local < length locals → t ≡ get_or locals local t →
    some_of end local locals ≡ t ∷ some_of end (local + 1) locals
first_of end local locals t h s e =
    let more : end - local ≡ suc (end - (local + 1)) = omega (arith, h) in
    ap (λ (n : ℕ). take n (drop local locals)) more
    ∙ ap (take (suc (end - (local + 1))))
    (drop_more locals local t s ∙ ap (λ (u : VarType). u ∷ drop (local + 1) locals) (sym e))

-- a local, and then the others
opened : (classes : List Class) (end local : ℕ) (locals : List VarType) (t : VarType) (store : Store) →
    local < end → local < length locals → t ≡ get_or locals local t →
    reset classes local (some_of end local locals) store
    ≡ after (reset_local classes local t store) (λ _. reset classes (local + 1) (some_of end (local + 1) locals))
opened classes end local locals t store h s e =
    ap (λ (ts : List VarType). reset classes local ts store) (first_of end local locals t h s e)
    ∙ regrouped (local_place local store) (λ p. reset_one classes t p)
    (λ _. reset classes (local + 1) (some_of end (local + 1) locals))

-- a local that has begun
pub local_done : (classes : List Class) (end local : ℕ) (locals : List VarType) (t : VarType) (old new : Store)
    (all : Out (Unit {0})) → local < end → local < length locals → t ≡ get_or locals local t →
    reset_local classes local t old ≡ Done tt new →
    all ≡ reset classes local (some_of end local locals) old →
    all ≡ reset classes (local + 1) (some_of end (local + 1) locals) new
local_done classes end local locals t old new all h s e d is =
    is ∙ opened classes end local locals t old h s e
    ∙ ap (λ (o : Out (Unit {0})). after o (λ _. reset classes (local + 1) (some_of end (local + 1) locals))) d

-- a local at which it does not go on
pub local_fails : (classes : List Class) (end local : ℕ) (locals : List VarType) (t : VarType) (old new : Store)
    (all : Out (Unit {0})) (why : Fault) → local < end → local < length locals → t ≡ get_or locals local t →
    Leads (reset_local classes local t old) (Err why) new →
    all ≡ reset classes local (some_of end local locals) old → Leads all (Err why) new
local_fails classes end local locals t old new all (fault.End end_of_run) h s e d is =
    is ∙ opened classes end local locals t old h s e
    ∙ ap (λ (o : Out (Unit {0})). after o (λ _. reset classes (local + 1) (some_of end (local + 1) locals))) d
local_fails classes end local locals t old new all fault.OutOfMemory h s e d is = tt
