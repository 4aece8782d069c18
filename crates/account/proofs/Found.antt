-- Where the item of a ticket stands in a list whose tickets rise, and what a change makes there.
use Rattle.std.proofs.Common.{◌≡◌, ℕ, ◌≤◌, suc, zero, ◌++◌, true, false, cond, eqb, ltb, List, [], ◌∷◌, length, set, slice_get, slice_index_or, insert, remove, Option, Some, None, refl, ap, sym, subst, ◌∙◌, arith, rules, option_to_list}
use Rattle.std.specs.Option.{option_map}
use Rattle.std.specs.List.{All}
use Rattle.std.specs.Prelude.{IfSome}
use Rattle.std.proofs.lemmas.List.Elements.{All-append, All-filter, All-nil, All-cons}
use Rattle.std.proofs.lemmas.Option.{get_or_from_slice_get, slice_get_past}
use Rattle.std.proofs.lemmas.List.{take-append-drop}
use Rattle.account.specs.Keyed.{item, put, Rising, lower, found, below, above, KeyIs}
use Rattle.account.proofs.Places.{item-hit, item-miss, item-end, item-there, item-not-there, put-new, put-gone, put-same, rising-put, rising-gone, numbers, put-none, below-is, above-miss}

pub found_hit : {X : Type 0} (key : X → ℕ) (t : ℕ) (xs : List X) (i : ℕ) (x : X) → i ≡ lower key t xs → slice_get xs i ≡ Some x → eqb (key x) t ≡ true → Some i ≡ found key t xs
found_hit {X} key t xs i x e h k = rw (item-hit key t xs x (subst (λ (v : ℕ). slice_get xs v ≡ Some x) e h) k) (ap Some e)

pub found_miss : {X : Type 0} (key : X → ℕ) (t : ℕ) (xs : List X) (i : ℕ) (x : X) → i ≡ lower key t xs → Rising key xs → slice_get xs i ≡ Some x → eqb (key x) t ≡ false → None ≡ found key t xs
found_miss {X} key t xs i x e r h k = rw (item-miss key t xs x r (subst (λ (v : ℕ). slice_get xs v ≡ Some x) e h) k) refl

pub found_end : {X : Type 0} (key : X → ℕ) (t : ℕ) (xs : List X) (i : ℕ) → i ≡ lower key t xs → length xs ≤ i → None ≡ found key t xs
found_end {X} key t xs i e h = rw (item-end key t xs (slice_get_past xs (lower key t xs) (subst (λ (v : ℕ). length xs ≤ v) e h))) refl

-- an item of the ticket stands at the place
pub record Stands {X : Type 0} (key : X → ℕ) (t : ℕ) (xs : List X) (i : ℕ) : Type 0 where
  pub one : X
  pub is : item key t xs ≡ Some one
  pub there : slice_get xs i ≡ Some one
  pub key_is : key one ≡ t
  pub place : lower key t xs ≡ i

pub stands : {X : Type 0} (key : X → ℕ) (t : ℕ) (xs : List X) (i : ℕ) → Rising key xs → Some i ≡ found key t xs → Stands key t xs i
stands {X} key t xs i r h =
    (elim (item key t xs) as (λ o. item key t xs ≡ o → Some i ≡ option_map (λ x. lower key t xs) o → Stands key t xs i) [
      | None ↦ λ e g. absurd (cc)
      | Some x ↦ λ e g. let p : lower key t xs ≡ i = grind rules in
          record { one = x; is = e; there = subst (λ (k : ℕ). slice_get xs k ≡ Some x) p (item-there key t xs x e r).0; key_is = (item-there key t xs x e r).1; place = p }
    ]) refl h

pub not_found : {X : Type 0} (key : X → ℕ) (t : ℕ) (xs : List X) → None ≡ found key t xs → item key t xs ≡ None
not_found {X} key t xs h =
    (elim (item key t xs) as (λ o. None ≡ option_map (λ x. lower key t xs) o → o ≡ None) [
      | None ↦ λ g. refl
      | Some x ↦ λ g. absurd (cc)
    ]) h

lower-le : {X : Type 0} (key : X → ℕ) (t : ℕ) (xs : List X) → lower key t xs ≤ length xs
lower-le key t [] = omega arith
lower-le {X} key t (x ∷ xs) = let h : lower key t xs ≤ length xs = lower-le key t xs in elim (ltb (key x) t) as (λ b. cond b (suc (lower key t xs)) 0 ≤ suc (length xs)) [
  | true ↦ omega arith
  | false ↦ omega arith
]

pub gone : {X : Type 0} (key : X → ℕ) (t : ℕ) (xs : List X) (i : ℕ) → Rising key xs → Some i ≡ found key t xs → put key t None xs ≡ remove xs i
gone key t xs i r h = let s : Stands key t xs i = stands key t xs i r h in
    subst (λ (k : ℕ). put key t None xs ≡ remove xs k) s.place (put-gone ltb numbers key t s.one xs r (subst (λ (k : ℕ). slice_get xs k ≡ Some s.one) (sym s.place) s.there) s.key_is)

pub replaced : {X : Type 0} (key : X → ℕ) (t : ℕ) (xs : List X) (i : ℕ) (z : X) → Rising key xs → Some i ≡ found key t xs → put key t (Some z) xs ≡ set xs i z
replaced key t xs i z r h = let s : Stands key t xs i = stands key t xs i r h in
    subst (λ (k : ℕ). put key t (Some z) xs ≡ set xs k z) s.place (put-same ltb numbers key t s.one z xs r (subst (λ (k : ℕ). slice_get xs k ≡ Some s.one) (sym s.place) s.there) s.key_is)

pub taken : {X : Type 0} (key : X → ℕ) (t : ℕ) (xs : List X) (i : ℕ) (y : X) → Rising key xs → Some i ≡ found key t xs → y ≡ slice_index_or xs i y → Some y ≡ item key t xs
taken key t xs i y r h e = let s : Stands key t xs i = stands key t xs i r h in
    let q : y ≡ s.one = e ∙ get_or_from_slice_get xs i s.one y s.there in ap Some q ∙ sym s.is

pub new_one : {X : Type 0} (key : X → ℕ) (y : X) (xs : List X) → Rising key xs → item key (key y) xs ≡ None → put key (key y) (Some y) xs ≡ insert xs (lower key (key y) xs) y
new_one key y xs r h = put-new ltb numbers key (key y) y xs r (item-not-there key (key y) xs h)

pub none_gone : {X : Type 0} (key : X → ℕ) (t : ℕ) (xs : List X) → Rising key xs → None ≡ found key t xs → xs ≡ put key t None xs
none_gone key t xs r h = rw (put-none ltb key t xs) (rw (below-is ltb numbers key t xs r) (rw (above-miss ltb numbers key t xs r (item-not-there key t xs (not_found key t xs h))) (sym (take-append-drop (lower key t xs) xs))))

-- a change keeps the order of the tickets
pub rising_put : {X : Type 0} (key : X → ℕ) (t : ℕ) (new : Option X) (xs : List X) → KeyIs key t new → Rising key xs → Rising key (put key t new xs)
rising_put key t None xs k r = rising-gone ltb numbers key t xs r
rising_put key t (Some y) xs k r = rising-put ltb numbers key t y xs k r

all_option : {X : Type 0} (P : X → Type 0) (o : Option X) → IfSome o P → All P (option_to_list o)
all_option P None h = All-nil P
all_option P (Some x) h = All-cons P x [] h (All-nil P)

-- what holds of all items and of the changed one holds of all after the change
pub all_put : {X : Type 0} (P : X → Type 0) (key : X → ℕ) (t : ℕ) (new : Option X) (xs : List X) → All P xs → IfSome new P → All P (put key t new xs)
all_put P key t new xs h k = All-append P (below ltb key t xs ++ option_to_list new) (above ltb key t xs) (All-append P (below ltb key t xs) (option_to_list new) (All-filter (λ x. ltb (key x) t) P xs h) (all_option P new k)) (All-filter (λ x. ltb t (key x)) P xs h)

pub all_item : {X : Type 0} (P : X → Type 0) (key : X → ℕ) (t : ℕ) (xs : List X) → All P xs → IfSome (item key t xs) P
all_item P key t [] h = tt
all_item {X} P key t (x ∷ xs) h = elim (eqb (key x) t) as (λ b. IfSome (cond b (Some x) (item key t xs)) P) [ true ↦ h zero x (omega arith) | false ↦ all_item P key t xs (λ k d p. h (suc k) d (omega arith)) ]

-- a change of the item at its place, and no change where there is none
pub changed_at : {X : Type 0} (key : X → ℕ) (t : ℕ) (f : X → X) (xs : List X) (i : ℕ) (p : X) → Rising key xs → Some i ≡ found key t xs → slice_get xs i ≡ Some p → put key t (option_map f (item key t xs)) xs ≡ set xs i (f p)
changed_at key t f xs i p r h g =
    let s : Stands key t xs i = stands key t xs i r h in
    let q : s.one ≡ p = grind (rules, s.there) in
    rw s.is (rw q (replaced key t xs i (f p) r h))

pub changed_none : {X : Type 0} (key : X → ℕ) (t : ℕ) (f : X → X) (xs : List X) → Rising key xs → None ≡ found key t xs → xs ≡ put key t (option_map f (item key t xs)) xs
changed_none key t f xs r h = rw (not_found key t xs h) (none_gone key t xs r h)
