-- Stretches that are written one after another.
use Rattle.std.proofs.Common.{◌≡◌, ◌≢◌, ℕ, ◌<◌, ◌≤◌, List, [], ◌∷◌, ◌++◌, length, length-append, Option, Some, None, refl, sym, ap, ◌∙◌, subst, arith}
use Rattle.std.specs.Prelude.{slice_get, slice_set}
use Rattle.std.proofs.Math.Seq.{get_or-append_seam}
use Rattle.std.proofs.lemmas.List.{get_or_append_left, get_or-set_same, get_or-set_other, length-set}
use Rattle.std.proofs.lemmas.Option.{slice_get-get_or, slice_get_within, get_or_from_slice_get}
use Rattle.mql_mean.specs.declared.value.Value.{Value}
use Rattle.mql_meaning.specs.declared.tree.Function.{Function}
use Rattle.stack_code.specs.declared.code.Instruction.{Instruction}
use Rattle.stack_follows.specs.Spans.{Listing}
use Rattle.stack_emission.specs.declared.draft.Draft.{Draft}
use Rattle.stack_emission.specs.Draft.{Coding, listing_in, Grown, Writes, Emits, Adds, NewLabel, SetLabel, ◌then◌, with_label, no_instruction, one, label}
use Rattle.stack_emission.proofs.Kept.{Kept, Stays, one_stays, label_stays}

-- the item at the end
pub slice_get_seam : {A : Type 0} (xs : List A) (x : A) (ys : List A) → slice_get (xs ++ x ∷ ys) (length xs) ≡ Some x
slice_get_seam xs x ys = slice_get-get_or (xs ++ x ∷ ys) (length xs) x (omega (arith, length-append xs (x ∷ ys))) ∙ ap Some (get_or-append_seam xs x ys x)

pub slice_get_more : {A : Type 0} (xs ys : List A) (k : ℕ) (x : A) → slice_get xs k ≡ Some x → slice_get (xs ++ ys) k ≡ Some x
slice_get_more xs ys k x e =
    let w = slice_get_within xs k x e in
    slice_get-get_or (xs ++ ys) k x (omega (arith, w, length-append xs ys)) ∙ ap Some (get_or_append_left xs ys x k w ∙ get_or_from_slice_get xs k x x e)

set_same : {A : Type 0} (xs : List A) (i : ℕ) (y x : A) → slice_get xs i ≡ Some x → slice_get (slice_set xs i y) i ≡ Some y
set_same xs i y x e =
    let w = slice_get_within xs i x e in
    slice_get-get_or (slice_set xs i y) i y (omega (arith, w, length-set xs i y)) ∙ ap Some (get_or-set_same xs i y y w)

set_other : {A : Type 0} (xs : List A) (i k : ℕ) (y x : A) → k ≢ i → slice_get xs k ≡ Some x → slice_get (slice_set xs i y) k ≡ Some x
set_other xs i k y x ne e =
    let w = slice_get_within xs k x e in
    slice_get-get_or (slice_set xs i y) k x (omega (arith, w, length-set xs i y)) ∙ ap Some (get_or-set_other xs i k y x ne ∙ get_or_from_slice_get xs k x x e)

-- a label has no place
pub record Unplaced (label : ℕ) (draft : Draft) : Type 0 where
  pub is : slice_get draft.labels label ≡ Some None

abbrev HasPlace : Option (Option ℕ) → Type 0
HasPlace None = ⊥
HasPlace (Some None) = ⊥
HasPlace (Some (Some p)) = Unit {0}

-- what stands in a draft stands in a grown one
pub kept : (fs : List Function) (n : ℕ) (d d' : Draft) → Grown n d d' → Kept (listing_in fs d) (listing_in fs d')
kept fs n d d' g = record { instructions = g.instructions; labels = g.placed; constants = g.constants; functions = λ k operands gives h. h }

pub grown_same : (n : ℕ) (d : Draft) → Grown n d d
grown_same n d = record { instructions = λ p i h. h; constants = λ k v h. h; placed = λ l p h. h; unplaced = λ l lt h. h; labels = omega arith }

pub grown_on : (n : ℕ) (d d1 d2 : Draft) → Grown n d d1 → Grown n d1 d2 → Grown n d d2
grown_on n d d1 d2 g h = record {
  instructions = λ p i e. h.instructions p i (g.instructions p i e);
  constants = λ k v e. h.constants k v (g.constants k v e);
  placed = λ l p e. h.placed l p (g.placed l p e);
  unplaced = λ l lt e. h.unplaced l lt (g.unplaced l lt e);
  labels = let p = g.labels in let q = h.labels in omega (arith, p, q);
}

pub grown_less : (n m : ℕ) (d d' : Draft) → n ≤ m → Grown m d d' → Grown n d d'
grown_less n m d d' le g = record {
  instructions = g.instructions;
  constants = g.constants;
  placed = g.placed;
  unplaced = λ l lt e. g.unplaced l (omega (arith, le, lt)) e;
  labels = g.labels;
}

-- one code and then another
pub seq : (n : ℕ) (A B : Coding) (d d1 d2 : Draft) → Stays A → Writes n A d d1 → Writes n B d1 d2 → Writes n (A then B) d d2
seq n A B d d1 d2 stays a b = record {
  grown = grown_on n d d1 d2 a.grown b.grown;
  is = λ fs. record { mid = length d1.instructions; first = stays fs (listing_in fs d1) (listing_in fs d2) (kept fs n d1 d2 b.grown) _ _ (a.is fs); rest = b.is fs };
}

pub less : (n m : ℕ) (A : Coding) (d d' : Draft) → n ≤ m → Writes m A d d' → Writes n A d d'
less n m A d d' le a = record { grown = grown_less n m d d' le a.grown; is = a.is }

-- one form and then another
pub both : (A B : Coding) (d d1 d2 : Draft) → Stays A → Emits A d d1 → Emits B d1 d2 → Emits (A then B) d d2
both A B d d1 d2 stays a b = seq (length d.labels) A B d d1 d2 stays a (less (length d.labels) (length d1.labels) B d1 d2 a.grown.labels b)

-- a form, and then code that may give places to labels from one on
pub form : (n : ℕ) (A B : Coding) (d d1 d2 : Draft) → Stays A → n ≤ length d.labels → Emits A d d1 → (n ≤ length d1.labels → Writes n B d1 d2) → Writes n (A then B) d d2
form n A B d d1 d2 stays le a b =
    let more = a.grown.labels in
    seq n A B d d1 d2 stays (less n (length d.labels) A d d1 le a) (b (omega (arith, le, more)))

pub nothing : (n : ℕ) (d : Draft) → Writes n no_instruction d d
nothing n d = record { grown = grown_same n d; is = λ fs. refl }

-- other code that stands where some stands
pub as_form : (n : ℕ) (A B : Coding) (d d1 : Draft) → ((fs : List Function) (here : Listing) (a b : ℕ) → A fs here a b → B fs here a b) → Writes n A d d1 → Writes n B d d1
as_form n A B d d1 f a = record { grown = a.grown; is = λ fs. f fs (listing_in fs d1) _ _ (a.is fs) }

-- an instruction
abbrev with_instruction : Instruction → Draft → Draft
with_instruction i d = record d { instructions = d.instructions ++ i ∷ [] }

pub adds : (n : ℕ) (i : Instruction) (d d' : Draft) → Adds i d d' → Writes n (one i) d d'
adds n i d d' a = subst (Writes n (one i) d) (sym a) (record {
  grown = record { instructions = λ p j h. slice_get_more d.instructions (i ∷ []) p j h; constants = λ k v h. h; placed = λ l p h. h; unplaced = λ l lt h. h; labels = omega arith };
  is = λ fs. record { at = slice_get_seam d.instructions i []; next = omega (arith, length-append d.instructions (i ∷ [])) };
})

-- a constant
abbrev with_constant : Value → Draft → Draft
with_constant v d = record d { constants = d.constants ++ v ∷ [] }

pub constant_grown : (n : ℕ) (v : Value) (d : Draft) → Grown n d (with_constant v d)
constant_grown n v d = record { instructions = λ p j h. h; constants = λ k u h. slice_get_more d.constants (v ∷ []) k u h; placed = λ l p h. h; unplaced = λ l lt h. h; labels = omega arith }

-- a new label
abbrev with_new : Draft → Draft
with_new d = record d { labels = d.labels ++ None ∷ [] }

pub new_unplaced : (l : ℕ) (d d1 : Draft) → NewLabel l d d1 → Unplaced l d1
new_unplaced l d d1 nl = record { is = ap (λ (d : Draft). slice_get d.labels l) nl.draft ∙ ap (slice_get (d.labels ++ None ∷ [])) nl.numbered ∙ slice_get_seam d.labels None [] }

label_grown : (n : ℕ) (d : Draft) → Grown n d (with_new d)
label_grown n d = record {
  instructions = λ p j h. h;
  constants = λ k u h. h;
  placed = λ l p h. slice_get_more d.labels (None ∷ []) l (Some p) h;
  unplaced = λ l lt h. slice_get_more d.labels (None ∷ []) l None h;
  labels = omega (arith, length-append d.labels (None ∷ []));
}

pub new_grown : (n l : ℕ) (d d1 : Draft) → NewLabel l d d1 → Grown n d d1
new_grown n l d d1 nl = subst (Grown n d) (sym nl.draft) (label_grown n d)

-- a label that stays without a place
pub still : (n l : ℕ) (d d1 : Draft) → l < n → Grown n d d1 → Unplaced l d → Unplaced l d1
still n l d d1 lt g u = record { is = g.unplaced l lt u.is }

pub still_form : (A : Coding) (l : ℕ) (d d1 : Draft) → Emits A d d1 → Unplaced l d → Unplaced l d1
still_form A l d d1 a u = still (length d.labels) l d d1 (slice_get_within d.labels l None u.is) a.grown u

pub still_added : (i : Instruction) (l : ℕ) (d d1 : Draft) → Adds i d d1 → Unplaced l d → Unplaced l d1
still_added i l d d1 a u = subst (Unplaced l) (sym a) (record { is = u.is })

pub still_new : (m l : ℕ) (d d1 : Draft) → NewLabel m d d1 → Unplaced l d → Unplaced l d1
still_new m l d d1 nl u = still (length d.labels) l d d1 (slice_get_within d.labels l None u.is) (new_grown (length d.labels) m d d1 nl) u

pub still_set : (m l : ℕ) (d d1 : Draft) → l ≢ m → SetLabel m d d1 → Unplaced l d → Unplaced l d1
still_set m l d d1 ne s u = subst (Unplaced l) (sym s) (record { is = set_other d.labels m l (Some (length d.instructions)) None ne u.is })

-- the number of a new label is that of no label before
pub new_other : (m l : ℕ) (d d1 : Draft) → NewLabel m d d1 → Unplaced l d → l ≢ m
new_other m l d d1 nl u = λ e. let w = slice_get_within d.labels l None u.is in let n = nl.numbered in omega (arith, w, e, n)

-- a label gets its place
abbrev with_place : ℕ → Draft → Draft
with_place l d = record d { labels = slice_set d.labels l (Some (length d.instructions)) }

place_grown : (n l : ℕ) (d : Draft) → Unplaced l d → n ≤ l → Grown n d (with_place l d)
place_grown n l d u le = record {
  instructions = λ p j h. h;
  constants = λ k v h. h;
  placed = λ k p h. set_other d.labels l k _ (Some p) (λ e. subst HasPlace (sym h ∙ ap (slice_get d.labels) e ∙ u.is) (tt {0})) h;
  unplaced = λ k lt h. set_other d.labels l k _ None (omega (arith, lt, le)) h;
  labels = omega (arith, length-set d.labels l (Some (length d.instructions)));
}

pub places : (n l : ℕ) (d d1 : Draft) → Unplaced l d → n ≤ l → SetLabel l d d1 → Writes n (label l) d d1
places n l d d1 u le s = subst (Writes n (label l) d) (sym s) (record {
  grown = place_grown n l d u le;
  is = λ fs. record { at = set_same d.labels l (Some (length d.instructions)) None u.is; same = refl };
})

-- code with a label of its own
pub labelled : (n l : ℕ) (A : ℕ → Coding) (d d1 d2 : Draft) → NewLabel l d d1 → Writes n (A l) d1 d2 → Writes n (with_label A) d d2
labelled n l A d d1 d2 nl a = record {
  grown = grown_on n d d1 d2 (new_grown n l d d1 nl) a.grown;
  is = λ fs. record { label = l; is = subst (λ k. A l fs (listing_in fs d2) k (length d2.instructions)) (ap (λ (d : Draft). length d.instructions) nl.draft) (a.is fs) };
}

-- a step, and then code that may give places to labels from one on
pub then_added : (n : ℕ) (i : Instruction) (B : Coding) (d d1 d2 : Draft) → n ≤ length d.labels → Adds i d d1 → (n ≤ length d1.labels → Writes n B d1 d2) → Writes n (one i then B) d d2
then_added n i B d d1 d2 le a b = form n (one i) B d d1 d2 (one_stays i) le (adds (length d.labels) i d d1 a) b

pub then_placed : (n l : ℕ) (B : Coding) (d d1 d2 : Draft) → n ≤ length d.labels → Unplaced l d → n ≤ l → SetLabel l d d1 → (n ≤ length d1.labels → Writes n B d1 d2) → Writes n (label l then B) d d2
then_placed n l B d d1 d2 le u ge s b =
    let p = places n l d d1 u ge s in
    let more = p.grown.labels in
    seq n (label l) B d d1 d2 (label_stays l) p (b (omega (arith, le, more)))

pub then_labelled : (n l : ℕ) (A : ℕ → Coding) (d d1 d2 : Draft) → n ≤ length d.labels → NewLabel l d d1 → (n ≤ l → n ≤ length d1.labels → Writes n (A l) d1 d2) → Writes n (with_label A) d d2
then_labelled n l A d d1 d2 le nl a =
    let more = (new_grown n l d d1 nl).labels in
    let at = nl.numbered in
    labelled n l A d d1 d2 nl (a (omega (arith, le, at)) (omega (arith, le, more)))
