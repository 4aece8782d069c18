use Rattle.std.proofs.Common.{◌≡◌, ℕ, ◌<◌, suc, zero, ◌++◌, Bool, true, false, cond, eqb, ltb, List, [], ◌∷◌, length, take, drop, set, slice_get, insert, remove, Some, None, refl, ap, sym, subst, ◌∙◌, arith, rules, filter, append_assoc, append-nil}
use Rattle.account.specs.Keyed.{below, above, put_by, AllAbove, RisingBy, place_by, IsStrict, item, Rising, lower}

pub not_both : {K : Type 0} (lt : K → K → Bool) → IsStrict lt → (a b : K) → lt a b ≡ true → lt b a ≡ false
not_both lt s a b h =
    (elim (lt b a) as (λ v. lt b a ≡ v → v ≡ false) [
      | true ↦ λ e. sym (s.chain a b a h e) ∙ s.none a
      | false ↦ λ e. refl
    ]) refl

-- keys that are all above are above what is no higher
pub far_above : {X K : Type 0} (lt : K → K → Bool) (key : X → K) (t : K) (xs : List X) → AllAbove lt key t xs → above lt key t xs ≡ xs
far_above lt key t [] h = refl
far_above lt key t (x ∷ xs) h = rw h.0 (ap (λ ys. x ∷ ys) (far_above lt key t xs h.1))

pub far_below : {X K : Type 0} (lt : K → K → Bool) → IsStrict lt → (key : X → K) (t : K) (xs : List X) → AllAbove lt key t xs → below lt key t xs ≡ []
far_below lt s key t [] h = refl
far_below lt s key t (x ∷ xs) h = rw (not_both lt s t (key x) h.0) (far_below lt s key t xs h.1)

pub all_more : {X K : Type 0} (lt : K → K → Bool) → IsStrict lt → (key : X → K) (t u : K) (xs : List X) → lt t u ≡ true → AllAbove lt key u xs → AllAbove lt key t xs
all_more lt s key t u [] h a = tt
all_more lt s key t u (x ∷ xs) h a = (s.chain t u (key x) h a.0, all_more lt s key t u xs h a.1)

-- what comes before a key
pub below-is : {X K : Type 0} (lt : K → K → Bool) → IsStrict lt → (key : X → K) (t : K) (xs : List X) → RisingBy lt key xs → below lt key t xs ≡ take (place_by lt key t xs) xs
below-is lt s key t [] h = refl
below-is {X} lt s key t (x ∷ xs) h =
    (elim (lt (key x) t) as (λ b. lt (key x) t ≡ b → cond b (x ∷ below lt key t xs) (below lt key t xs) ≡ take (cond b (suc (place_by lt key t xs)) 0) (x ∷ xs)) [
      | true ↦ λ e. ap (λ ys. x ∷ ys) (below-is lt s key t xs h.1)
      | false ↦ λ e. not_above lt s key t x xs h e
    ]) refl
  where
    not_above : {X K : Type 0} (lt : K → K → Bool) → IsStrict lt → (key : X → K) (t : K) (x : X) (xs : List X) → RisingBy lt key (x ∷ xs) → lt (key x) t ≡ false → below lt key t xs ≡ []
    not_above {X} {K} lt s key t x xs h e =
        (elim (lt t (key x)) as (λ b. lt t (key x) ≡ b → below lt key t xs ≡ []) [
          | true ↦ λ f. far_below lt s key t xs (all_more lt s key t (key x) xs f h.0)
          | false ↦ λ f. far_below lt s key t xs (subst (λ (k : K). AllAbove lt key k xs) (s.total (key x) t e f) h.0)
        ]) refl

-- what comes after a key: at its place another stands, or none
pub above-miss : {X K : Type 0} (lt : K → K → Bool) → IsStrict lt → (key : X → K) (t : K) (xs : List X) → RisingBy lt key xs → ((x : X) → slice_get xs (place_by lt key t xs) ≡ Some x → lt t (key x) ≡ true) → above lt key t xs ≡ drop (place_by lt key t xs) xs
above-miss lt s key t [] h g = refl
above-miss {X} {K} lt s key t (x ∷ xs) h g =
    (elim (lt (key x) t) as (λ b. lt (key x) t ≡ b → ((y : X) → slice_get (x ∷ xs) (cond b (suc (place_by lt key t xs)) 0) ≡ Some y → lt t (key y) ≡ true) → above lt key t (x ∷ xs) ≡ drop (cond b (suc (place_by lt key t xs)) 0) (x ∷ xs)) [
      | true ↦ λ e g. rw (not_both lt s (key x) t e) (above-miss lt s key t xs h.1 g)
      | false ↦ λ e g. let f : lt t (key x) ≡ true = g x refl in far_above lt key t (x ∷ xs) (f, all_more lt s key t (key x) xs f h.0)
    ]) refl g

-- at its place stands an item of the key
pub above-hit : {X K : Type 0} (lt : K → K → Bool) → IsStrict lt → (key : X → K) (t : K) (xs : List X) (y : X) → RisingBy lt key xs → slice_get xs (place_by lt key t xs) ≡ Some y → key y ≡ t → above lt key t xs ≡ drop (suc (place_by lt key t xs)) xs
above-hit lt s key t [] y h g k = refl
above-hit {X} {K} lt s key t (x ∷ xs) y h g k =
    (elim (lt (key x) t) as (λ b. lt (key x) t ≡ b → slice_get (x ∷ xs) (cond b (suc (place_by lt key t xs)) 0) ≡ Some y → above lt key t (x ∷ xs) ≡ drop (suc (cond b (suc (place_by lt key t xs)) 0)) (x ∷ xs)) [
      | true ↦ λ e g. rw (not_both lt s (key x) t e) (above-hit lt s key t xs y h.1 g k)
      | false ↦ λ e g. here lt s key t x xs y h g k
    ]) refl g
  where
    here : {X K : Type 0} (lt : K → K → Bool) → IsStrict lt → (key : X → K) (t : K) (x : X) (xs : List X) (y : X) → RisingBy lt key (x ∷ xs) → Some x ≡ Some y → key y ≡ t → above lt key t (x ∷ xs) ≡ xs
    here {X} {K} lt s key t x xs y h g k =
        let q : key x ≡ t = grind rules in
        let f : lt t (key x) ≡ false = rw q (s.none t) in
        rw f (far_above lt key t xs (subst (λ (v : K). AllAbove lt key v xs) q h.0))

pub set-is : {X : Type 0} (xs : List X) (i : ℕ) (y : X) → i < length xs → set xs i y ≡ take i xs ++ y ∷ drop (suc i) xs
set-is [] i y h = absurd (omega arith)
set-is (x ∷ xs) zero y h = refl
set-is (x ∷ xs) (suc i) y h = ap (λ ys. x ∷ ys) (set-is xs i y (omega arith))

-- a change, in the words of places
pub put-new : {X K : Type 0} (lt : K → K → Bool) → IsStrict lt → (key : X → K) (t : K) (y : X) (xs : List X) → RisingBy lt key xs → ((x : X) → slice_get xs (place_by lt key t xs) ≡ Some x → lt t (key x) ≡ true) → put_by lt key t (Some y) xs ≡ insert xs (place_by lt key t xs) y
put-new lt s key t y xs h g = rw (below-is lt s key t xs h) (rw (above-miss lt s key t xs h g) (append_assoc (take (place_by lt key t xs) xs) (y ∷ []) (drop (place_by lt key t xs) xs)))

pub put-gone : {X K : Type 0} (lt : K → K → Bool) → IsStrict lt → (key : X → K) (t : K) (y : X) (xs : List X) → RisingBy lt key xs → slice_get xs (place_by lt key t xs) ≡ Some y → key y ≡ t → put_by lt key t None xs ≡ remove xs (place_by lt key t xs)
put-gone lt s key t y xs h g k = rw (below-is lt s key t xs h) (rw (above-hit lt s key t xs y h g k) (rw (append-nil (take (place_by lt key t xs) xs)) refl))

pub put-same : {X K : Type 0} (lt : K → K → Bool) → IsStrict lt → (key : X → K) (t : K) (y z : X) (xs : List X) → RisingBy lt key xs → slice_get xs (place_by lt key t xs) ≡ Some y → key y ≡ t → put_by lt key t (Some z) xs ≡ set xs (place_by lt key t xs) z
put-same lt s key t y z xs h g k = rw (below-is lt s key t xs h) (rw (above-hit lt s key t xs y h g k) (append_assoc (take (place_by lt key t xs) xs) (z ∷ []) (drop (suc (place_by lt key t xs)) xs) ∙ sym (set-is xs (place_by lt key t xs) z (within xs (place_by lt key t xs) y g))))
  where
    within : {X : Type 0} (xs : List X) (i : ℕ) (y : X) → slice_get xs i ≡ Some y → i < length xs
    within [] i y h = absurd (cc)
    within (x ∷ xs) zero y h = omega arith
    within (x ∷ xs) (suc i) y h = let g : i < length xs = within xs i y h in omega arith

-- keys still rise after a change
pub all-append : {X K : Type 0} (lt : K → K → Bool) (key : X → K) (t : K) (xs ys : List X) → AllAbove lt key t xs → AllAbove lt key t ys → AllAbove lt key t (xs ++ ys)
all-append lt key t [] ys g h = h
all-append lt key t (x ∷ xs) ys g h = (g.0, all-append lt key t xs ys g.1 h)

pub all-filter : {X K : Type 0} (lt : K → K → Bool) (key : X → K) (p : X → Bool) (t : K) (xs : List X) → AllAbove lt key t xs → AllAbove lt key t (filter p xs)
all-filter lt key p t [] h = tt
all-filter {X} {K} lt key p t (x ∷ xs) h = elim (p x) as (λ b. AllAbove lt key t (cond b (x ∷ filter p xs) (filter p xs))) [
  | true ↦ (h.0, all-filter lt key p t xs h.1)
  | false ↦ all-filter lt key p t xs h.1
]

pub rising-filter : {X K : Type 0} (lt : K → K → Bool) (key : X → K) (p : X → Bool) (xs : List X) → RisingBy lt key xs → RisingBy lt key (filter p xs)
rising-filter lt key p [] h = tt
rising-filter {X} {K} lt key p (x ∷ xs) h = elim (p x) as (λ b. RisingBy lt key (cond b (x ∷ filter p xs) (filter p xs))) [
  | true ↦ (all-filter lt key p (key x) xs h.0, rising-filter lt key p xs h.1)
  | false ↦ rising-filter lt key p xs h.1
]

all-above : {X K : Type 0} (lt : K → K → Bool) (key : X → K) (t : K) (xs : List X) → AllAbove lt key t (above lt key t xs)
all-above lt key t [] = tt
all-above {X} {K} lt key t (x ∷ xs) = (elim (lt t (key x)) as (λ b. lt t (key x) ≡ b → AllAbove lt key t (cond b (x ∷ above lt key t xs) (above lt key t xs))) [
  | true ↦ λ e. (e, all-above lt key t xs)
  | false ↦ λ e. all-above lt key t xs
]) refl

-- a rising list of keys below t, and then one of keys from t on
joined : {X K : Type 0} (lt : K → K → Bool) → IsStrict lt → (key : X → K) (t : K) (xs ys : List X) → RisingBy lt key xs → RisingBy lt key ys → ((k : K) → lt k t ≡ true → AllAbove lt key k ys) → RisingBy lt key (below lt key t xs ++ ys)
joined lt s key t [] ys g h f = h
joined {X} {K} lt s key t (x ∷ xs) ys g h f = (elim (lt (key x) t) as (λ b. lt (key x) t ≡ b → RisingBy lt key (cond b (x ∷ below lt key t xs) (below lt key t xs) ++ ys)) [
  | true ↦ λ e. (all-append lt key (key x) (below lt key t xs) ys (all-filter lt key (λ y. lt (key y) t) (key x) xs g.0) (f (key x) e), joined lt s key t xs ys g.1 h f)
  | false ↦ λ e. joined lt s key t xs ys g.1 h f
]) refl

pub put-none : {X K : Type 0} (lt : K → K → Bool) (key : X → K) (t : K) (xs : List X) → put_by lt key t None xs ≡ below lt key t xs ++ above lt key t xs
put-none lt key t xs = rw (append-nil (below lt key t xs)) refl

pub put-some : {X K : Type 0} (lt : K → K → Bool) (key : X → K) (t : K) (y : X) (xs : List X) → put_by lt key t (Some y) xs ≡ below lt key t xs ++ y ∷ above lt key t xs
put-some lt key t y xs = append_assoc (below lt key t xs) (y ∷ []) (above lt key t xs)

pub rising-gone : {X K : Type 0} (lt : K → K → Bool) → IsStrict lt → (key : X → K) (t : K) (xs : List X) → RisingBy lt key xs → RisingBy lt key (put_by lt key t None xs)
rising-gone {X} {K} lt s key t xs h = rw (put-none lt key t xs) (joined lt s key t xs (above lt key t xs) h (rising-filter lt key (λ x. lt t (key x)) xs h) (λ k e. all_more lt s key k t (above lt key t xs) e (all-above lt key t xs)))

pub rising-put : {X K : Type 0} (lt : K → K → Bool) → IsStrict lt → (key : X → K) (t : K) (y : X) (xs : List X) → key y ≡ t → RisingBy lt key xs → RisingBy lt key (put_by lt key t (Some y) xs)
rising-put {X} {K} lt s key t y xs k h = rw (put-some lt key t y xs) (joined lt s key t xs (y ∷ above lt key t xs) h
    (subst (λ (v : K). AllAbove lt key v (above lt key t xs)) (sym k) (all-above lt key t xs), rising-filter lt key (λ x. lt t (key x)) xs h)
    (λ v e. (subst (λ (w : K). lt v w ≡ true) (sym k) e, all_more lt s key v t (above lt key t xs) e (all-above lt key t xs))))

-- numbers
pub numbers : IsStrict ltb
numbers = record { none = λ a. grind arith; chain = λ a b c g h. grind arith; total = λ a b g h. grind arith }

-- where an item of a ticket stands
pub item-hit : {X : Type 0} (key : X → ℕ) (t : ℕ) (xs : List X) (x : X) → slice_get xs (lower key t xs) ≡ Some x → eqb (key x) t ≡ true → item key t xs ≡ Some x
item-hit key t [] x h k = h
item-hit {X} key t (y ∷ xs) x h k =
    (elim (ltb (key y) t) as (λ b. ltb (key y) t ≡ b → slice_get (y ∷ xs) (cond b (suc (lower key t xs)) 0) ≡ Some x → item key t (y ∷ xs) ≡ Some x) [
      | true ↦ λ e g. let f : eqb (key y) t ≡ false = grind arith in rw f (item-hit key t xs x g k)
      | false ↦ λ e g. let f : eqb (key y) t ≡ true = grind rules in rw f g
    ]) refl h

pub item-end : {X : Type 0} (key : X → ℕ) (t : ℕ) (xs : List X) → slice_get xs (lower key t xs) ≡ None → item key t xs ≡ None
item-end key t [] h = refl
item-end {X} key t (y ∷ xs) h =
    (elim (ltb (key y) t) as (λ b. ltb (key y) t ≡ b → slice_get (y ∷ xs) (cond b (suc (lower key t xs)) 0) ≡ None → item key t (y ∷ xs) ≡ None) [
      | true ↦ λ e g. let f : eqb (key y) t ≡ false = grind arith in rw f (item-end key t xs g)
      | false ↦ λ e g. absurd (cc)
    ]) refl h

pub far_item : {X : Type 0} (key : X → ℕ) (t : ℕ) (xs : List X) → AllAbove ltb key t xs → item key t xs ≡ None
far_item key t [] h = refl
far_item key t (x ∷ xs) h = let k : ltb t (key x) ≡ true = h.0 in let e : eqb (key x) t ≡ false = grind arith in rw e (far_item key t xs h.1)

pub item-miss : {X : Type 0} (key : X → ℕ) (t : ℕ) (xs : List X) (x : X) → Rising key xs → slice_get xs (lower key t xs) ≡ Some x → eqb (key x) t ≡ false → item key t xs ≡ None
item-miss key t [] x r h k = refl
item-miss {X} key t (y ∷ xs) x r h k =
    (elim (ltb (key y) t) as (λ b. ltb (key y) t ≡ b → slice_get (y ∷ xs) (cond b (suc (lower key t xs)) 0) ≡ Some x → item key t (y ∷ xs) ≡ None) [
      | true ↦ λ e g. let f : eqb (key y) t ≡ false = grind arith in rw f (item-miss key t xs x r.1 g k)
      | false ↦ λ e g. let f : eqb (key y) t ≡ false = grind rules in let m : ltb t (key y) ≡ true = grind arith in rw f (far_item key t xs (all_more ltb numbers key t (key y) xs m r.0))
    ]) refl h

-- what stands at the place of a ticket: its item, or one of a higher ticket, or none
pub item-there : {X : Type 0} (key : X → ℕ) (t : ℕ) (xs : List X) (x : X) → item key t xs ≡ Some x → Rising key xs → (slice_get xs (lower key t xs) ≡ Some x) × (key x ≡ t)
item-there key t [] x h r = absurd (cc)
item-there {X} key t (y ∷ xs) x h r =
    (elim (ltb (key y) t) as (λ b. ltb (key y) t ≡ b → (slice_get (y ∷ xs) (cond b (suc (lower key t xs)) 0) ≡ Some x) × (key x ≡ t)) [
      | true ↦ λ e. let f : eqb (key y) t ≡ false = grind arith in item-there key t xs x (subst (λ (b : Bool). cond b (Some y) (item key t xs) ≡ Some x) f h) r.1
      | false ↦ λ e. (elim (eqb (key y) t) as (λ b. eqb (key y) t ≡ b → cond b (Some y) (item key t xs) ≡ Some x → (Some y ≡ Some x) × (key x ≡ t)) [
        | true ↦ λ f g. (g, let k : key y ≡ t = grind arith in grind rules)
        | false ↦ λ f g. let m : ltb t (key y) ≡ true = grind arith in let n : item key t xs ≡ None = far_item key t xs (all_more ltb numbers key t (key y) xs m r.0) in absurd (cc)
      ]) refl h
    ]) refl

pub item-not-there : {X : Type 0} (key : X → ℕ) (t : ℕ) (xs : List X) → item key t xs ≡ None → (x : X) → slice_get xs (lower key t xs) ≡ Some x → ltb t (key x) ≡ true
item-not-there key t [] h x g = absurd (cc)
item-not-there {X} key t (y ∷ xs) h x g =
    (elim (eqb (key y) t) as (λ c. eqb (key y) t ≡ c → cond c (Some y) (item key t xs) ≡ None → ltb t (key x) ≡ true) [
      | true ↦ λ f h. absurd (cc)
      | false ↦ λ f h. (elim (ltb (key y) t) as (λ b. ltb (key y) t ≡ b → slice_get (y ∷ xs) (cond b (suc (lower key t xs)) 0) ≡ Some x → ltb t (key x) ≡ true) [
        | true ↦ λ e g. item-not-there key t xs h x g
        | false ↦ λ e g. let m : ltb t (key y) ≡ true = grind arith in let q : y ≡ x = grind rules in subst (λ (v : X). ltb t (key v) ≡ true) q m
      ]) refl g
    ]) refl h
