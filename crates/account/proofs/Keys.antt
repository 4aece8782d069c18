use Rattle.std.proofs.Common.{◌≡◌, ℕ, ◌++◌, Bool, true, false, cond, eqb, ltb, List, [], ◌∷◌, Option, Some, None, refl, ap, ◌∙◌, arith, filter, option_to_list}
use Rattle.account.specs.Keyed.{item, below, above, put, KeyIs}

-- the first of two, if there is one
abbrev pub either_of : {X : Type 0} → Option X → Option X → Option X
either_of None y = y
either_of (Some x) y = Some x

pub item-append : {X : Type 0} (key : X → ℕ) (t : ℕ) (xs ys : List X) → item key t (xs ++ ys) ≡ either_of (item key t xs) (item key t ys)
item-append key t [] ys = refl
item-append {X} key t (x ∷ xs) ys =
    elim (eqb (key x) t) as (λ b. cond b (Some x) (item key t (xs ++ ys)) ≡ either_of (cond b (Some x) (item key t xs)) (item key t ys)) [
      | true ↦ refl
      | false ↦ item-append key t xs ys
    ]

pub item_key : {X : Type 0} (key : X → ℕ) (t : ℕ) (xs : List X) → KeyIs key t (item key t xs)
item_key key t [] = tt
item_key {X} key t (x ∷ xs) =
    (elim (eqb (key x) t) as (λ b. eqb (key x) t ≡ b → KeyIs key t (cond b (Some x) (item key t xs))) [
      | true ↦ λ e. grind arith
      | false ↦ λ e. item_key key t xs
    ]) refl

-- a filter that keeps a ticket finds its item, and one that drops it does not
kept : {X : Type 0} (key : X → ℕ) (keep : ℕ → Bool) (t : ℕ) (xs : List X) → keep t ≡ true → item key t (filter (λ x. keep (key x)) xs) ≡ item key t xs
kept key keep t [] h = refl
kept {X} key keep t (x ∷ xs) h =
    (elim (eqb (key x) t) as (λ b. eqb (key x) t ≡ b → item key t (cond (keep (key x)) (x ∷ filter (λ x. keep (key x)) xs) (filter (λ x. keep (key x)) xs)) ≡ cond b (Some x) (item key t xs)) [
      | true ↦ λ e. let k : key x ≡ t = grind arith in let kk : keep (key x) ≡ true = ap keep k ∙ h in rw kk (rw e refl)
      | false ↦ λ e. elim (keep (key x)) as (λ c. item key t (cond c (x ∷ filter (λ x. keep (key x)) xs) (filter (λ x. keep (key x)) xs)) ≡ item key t xs) [
        | true ↦ rw e (kept key keep t xs h)
        | false ↦ kept key keep t xs h
      ]
    ]) refl

dropped : {X : Type 0} (key : X → ℕ) (keep : ℕ → Bool) (t : ℕ) (xs : List X) → keep t ≡ false → item key t (filter (λ x. keep (key x)) xs) ≡ None
dropped key keep t [] h = refl
dropped {X} key keep t (x ∷ xs) h =
    (elim (keep (key x)) as (λ c. keep (key x) ≡ c → item key t (cond c (x ∷ filter (λ x. keep (key x)) xs) (filter (λ x. keep (key x)) xs)) ≡ None) [
      | true ↦ λ e. (elim (eqb (key x) t) as (λ b. eqb (key x) t ≡ b → cond b (Some x) (item key t (filter (λ x. keep (key x)) xs)) ≡ None) [
        | true ↦ λ f. let k : key x ≡ t = grind arith in absurd (cc)
        | false ↦ λ f. dropped key keep t xs h
      ]) refl
      | false ↦ λ e. dropped key keep t xs h
    ]) refl

not_self : (t : ℕ) → ltb t t ≡ false
not_self t = grind arith

none_below : {X : Type 0} (key : X → ℕ) (t : ℕ) (xs : List X) → item key t (below ltb key t xs) ≡ None
none_below key t xs = dropped key (λ k. ltb k t) t xs (not_self t)

none_above : {X : Type 0} (key : X → ℕ) (t : ℕ) (xs : List X) → item key t (above ltb key t xs) ≡ None
none_above key t xs = dropped key (λ k. ltb t k) t xs (not_self t)

other_none : {X : Type 0} (key : X → ℕ) (t u : ℕ) (new : Option X) → KeyIs key t new → eqb t u ≡ false → item key u (option_to_list new) ≡ None
other_none key t u None h n = refl
other_none {X} key t u (Some x) h n = let e : eqb (key x) u ≡ false = rw h n in rw e refl

none_right : {X : Type 0} (o : Option X) → either_of (either_of o None) None ≡ o
none_right None = refl
none_right (Some x) = refl

-- what stands at the ticket of a change, and at another
pub item-put : {X : Type 0} (key : X → ℕ) (t : ℕ) (new : Option X) (xs : List X) → KeyIs key t new → item key t (put key t new xs) ≡ new
item-put key t None xs h =
    rw (item-append key t (below ltb key t xs ++ []) (above ltb key t xs)) (rw (item-append key t (below ltb key t xs) []) (rw (none_below key t xs) (none_above key t xs)))
item-put key t (Some x) xs h =
    let e : eqb (key x) t ≡ true = grind arith in
    rw (item-append key t (below ltb key t xs ++ x ∷ []) (above ltb key t xs)) (rw (item-append key t (below ltb key t xs) (x ∷ [])) (rw (none_below key t xs) (rw e refl)))

pub item-put-other : {X : Type 0} (key : X → ℕ) (t u : ℕ) (new : Option X) (xs : List X) → KeyIs key t new → eqb t u ≡ false → item key u (put key t new xs) ≡ item key u xs
item-put-other {X} key t u new xs h n =
    rw (item-append key u (below ltb key t xs ++ option_to_list new) (above ltb key t xs)) (rw (item-append key u (below ltb key t xs) (option_to_list new)) (
    rw (other_none key t u new h n) ((elim (ltb u t) as (λ b. ltb u t ≡ b → either_of (either_of (item key u (below ltb key t xs)) None) (item key u (above ltb key t xs)) ≡ item key u xs) [
      | true ↦ λ e. let f : ltb t u ≡ false = grind arith in
          rw (kept key (λ k. ltb k t) u xs e) (rw (dropped key (λ k. ltb t k) u xs f) (none_right (item key u xs)))
      | false ↦ λ e. let f : ltb t u ≡ true = grind arith in
          rw (dropped key (λ k. ltb k t) u xs e) (kept key (λ k. ltb t k) u xs f)
    ]) refl)))
