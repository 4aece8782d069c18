-- Objects with the objects that are their fields.
use Rattle.std.proofs.Common.{◌≡◌, ℕ, zero, suc, ◌-◌, ◌≤◌, Bool, List, refl, arith}
use Rattle.std.specs.Prelude.{slice_get}
use Rattle.mql_meaning.specs.declared.store.Store.{Store}
use Rattle.mql_meaning.specs.declared.tree.Class.{Class}
use Rattle.mql_meaning.specs.Cells.{fields_of}
use Rattle.mql_meaning.specs.Changes.{Over, Stuck, after}
use Rattle.mql_meaning.specs.Objects.{fresh, make}
use Rattle.store_objects.specs.Added.{with_fields}

pub make_none : (classes : List Class) (automatic : Bool) (class : ℕ) (store : Store) →
    make 0 classes automatic class store ≡ Over Stuck store
make_none classes automatic class store = refl

pub make_more : (deep : ℕ) (classes : List Class) (automatic : Bool) (class : ℕ) (store : Store) → 1 ≤ deep →
    make deep classes automatic class store
    ≡ after (fresh classes class automatic store)
    (λ (serial : ℕ). with_fields (deep - 1) classes (fields_of (slice_get classes class)) serial)
make_more zero classes automatic class store h = absurd (omega (arith, h))
make_more (suc deep) classes automatic class store h = let d : suc deep - 1 ≡ deep = omega arith in rw d refl
