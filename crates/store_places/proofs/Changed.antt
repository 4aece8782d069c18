-- Items of lists that change.
use Rattle.std.proofs.Common.{◌≡◌, ℕ, zero, suc, ◌-◌, ◌<◌, ◌≤◌, Bool, true, false, List, [], ◌∷◌, length, Option, Some, None, refl, ap, sym, ◌∙◌, subst, arith}
use Rattle.std.specs.Prelude.{ℤ, pos, negsuc, ◌==◌, nat_lt, slice_get, slice_set}
use Rattle.mql_mean.specs.declared.error.ErrorKind.TheVariants.{ArrayRange}
use Rattle.mql_meaning.specs.declared.cell.Cell.{Cell}
use Rattle.mql_meaning.specs.declared.cell.Cell.TheOpen.{Cell-F}
use Rattle.mql_meaning.specs.declared.place.Place.{Place}
use Rattle.mql_meaning.specs.declared.store.Object.{Object}
use Rattle.mql_meaning.specs.declared.store.Frame.{Frame}
use Rattle.mql_meaning.specs.declared.store.Store.{Store}
use Rattle.mql_meaning.specs.Changes.{Done, after, becomes, either, give, must, the, top}
use Rattle.mql_meaning.specs.Places.{changed, element_place, field_place, position, set_line, with_fields, with_part}
use Rattle.store_places.specs.Puts.{element_of, object_with, place_in, within}

some_same : {A : Type 0} (a b : A) → Some a ≡ Some b → a ≡ b
some_same a b e = subst (λ (o : Option _). elim o as (λ _. Type 0) [ None ↦ Unit {0} | Some c ↦ a ≡ c ]) e refl

-- past the end nothing changes
pub changed_past : {A : Type 0} (xs : List A) (i : ℕ) (f : A → A) → length xs ≤ i → changed xs i f ≡ xs
changed_past [] i f e = refl
changed_past (x ∷ xs) zero f e = absurd (omega (arith, e))
changed_past (x ∷ xs) (suc i) f e = ap (λ ys. x ∷ ys) (changed_past xs i f (omega (arith, e)))

pub changed_none : {A : Type 0} (xs : List A) (i : ℕ) (f : A → A) → slice_get xs i ≡ None → changed xs i f ≡ xs
changed_none [] i f e = refl
changed_none (x ∷ xs) zero f e =
    absurd (subst (λ (o : Option _). elim o as (λ _. Type 0) [ None ↦ ⊥ | Some c ↦ Unit {0} ]) e (tt {0}))
changed_none (x ∷ xs) (suc i) f e = ap (λ ys. x ∷ ys) (changed_none xs i f e)

-- an item that is there
pub changed_some : {A : Type 0} (xs : List A) (i : ℕ) (f : A → A) (a : A) → slice_get xs i ≡ Some a →
    changed xs i f ≡ slice_set xs i (f a)
changed_some [] i f a e =
    absurd (subst (λ (o : Option _). elim o as (λ _. Type 0) [ None ↦ Unit {0} | Some c ↦ ⊥ ]) e (tt {0}))
changed_some (x ∷ xs) zero f a e = ap (λ y. f y ∷ xs) (some_same x a e)
changed_some (x ∷ xs) (suc i) f a e = ap (λ ys. x ∷ ys) (changed_some xs i f a e)

-- an item that is changed where it stands
pub changed_put : {A : Type 0} (xs : List A) (i : ℕ) (f : A → A) (a b : A) → slice_get xs i ≡ Some a → b ≡ f a →
    slice_set xs i b ≡ changed xs i f
changed_put xs i f a b e h = ap (λ y. slice_set xs i y) h ∙ sym (changed_some xs i f a e)

-- a cell that is put in the place of another
pub changed_to : (cs : List Cell) (i : ℕ) (new : Cell) → i < length cs →
    slice_set cs i new ≡ changed cs i (with_part [] new)
changed_to [] i new e = absurd (omega (arith, e))
changed_to (c ∷ cs) zero new e = refl
changed_to (c ∷ cs) (suc i) new e = ap (λ ys. c ∷ ys) (changed_to cs i new (omega (arith, e)))

-- a cell that is taken out, and put back changed
pub changed_back : (cs : List Cell) (i : ℕ) (hole old : Cell) (f : Cell → Cell) → slice_get cs i ≡ Some old →
    slice_set (slice_set cs i hole) i (f old) ≡ changed cs i f
changed_back [] i hole old f e =
    absurd (subst (λ (o : Option _). elim o as (λ _. Type 0) [ None ↦ Unit {0} | Some c ↦ ⊥ ]) e (tt {0}))
changed_back (c ∷ cs) zero hole old f e = ap (λ y. f y ∷ cs) (sym (some_same c old e))
changed_back (c ∷ cs) (suc i) hole old f e = ap (λ ys. c ∷ ys) (changed_back cs i hole old f e)

-- the frame in force gets a line
frame_there : (o : Option Frame) (f : Frame) (old new : Store) → o ≡ Some f →
    after (the o old) (λ _. becomes new) ≡ Done tt new
frame_there None f old new e =
    absurd (subst (λ (o : Option _). elim o as (λ _. Type 0) [ None ↦ Unit {0} | Some c ↦ ⊥ ]) e (tt {0}))
frame_there (Some g) f old new e = refl

pub line_set : (line : ℕ) (store : Store) (f : Frame) → top store ≡ Some f →
    set_line line store ≡ Done tt (record store {
      frames = slice_set store.frames (length store.frames - 1) (record f { line = line });
    })
line_set line store f e =
    subst (λ (fs : List Frame). set_line line store ≡ Done tt (record store { frames = fs }))
    (changed_some store.frames (length store.frames - 1) (λ (g : Frame). record g { line = line }) f e)
    (frame_there (top store) f store
    (record store {
      frames = changed store.frames (length store.frames - 1) (λ (g : Frame). record g { line = line });
    })
    e)

-- where the first object of a serial stands
first_object : (o : Object) (os : List Object) (serial : ℕ) (f : Cell → Cell) (b : Bool) →
    with_fields os serial f ≡ changed os (place_in os serial) (object_with f) →
    either b (object_with f o ∷ os) (o ∷ with_fields os serial f)
    ≡ changed (o ∷ os) (either b 0 (suc (place_in os serial))) (object_with f)
first_object o os serial f true e = refl
first_object o os serial f false e = ap (λ ps. o ∷ ps) e

pub with_fields_at : (os : List Object) (serial : ℕ) (f : Cell → Cell) →
    with_fields os serial f ≡ changed os (place_in os serial) (object_with f)
with_fields_at [] serial f = refl
with_fields_at (o ∷ os) serial f = first_object o os serial f (o.serial == serial) (with_fields_at os serial f)

-- the place of an element
element_within : (series : Bool) (size i : ℕ) (p : Place) (store : Store) (b : Bool) →
    after (must b ArrayRange store) (λ _. give (field_place (position series size i) p))
    ≡ element_of series size (either b (Some i) None) p store
element_within series size i p store true = refl
element_within series size i p store false = refl

pub element_is : (dynamic series : Bool) (unit cs : List Cell) (i : ℤ) (p : Place) (store : Store) →
    element_place (Cell-F.Array dynamic series unit cs) i p store
    ≡ element_of series (length cs) (within i (length cs)) p store
element_is dynamic series unit cs (pos i) p store = element_within series (length cs) i p store (nat_lt i (length cs))
element_is dynamic series unit cs (negsuc i) p store = refl
