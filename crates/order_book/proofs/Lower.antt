-- The place of a ticket, as it is found by halving.
use Rattle.std.proofs.Common.{◌≡◌, ℕ, ◌<◌, ◌≤◌, suc, zero, true, false, ltb, List, [], ◌∷◌, length, refl, ap, arith, get_or, ltb-true}
use Rattle.std.specs.List.Sorted.{IsNonDecreasingBy}
use Rattle.account.specs.Keyed.{Rising, AllAbove, lower}

-- keys that rise do not fall
all_at : {X : Type 0} (key : X → ℕ) (t : ℕ) (xs : List X) (j : ℕ) (d : X) → AllAbove ltb key t xs → j < length xs → t ≤ key (get_or xs j d)
all_at key t [] j d h l = absurd (omega arith)
all_at key t (x ∷ xs) zero d h l = let e : ltb t (key x) ≡ true = h.0 in let f : t < key x = ltb-true _ _ e in omega arith
all_at key t (x ∷ xs) (suc j) d h l = all_at key t xs j d h.1 (omega arith)

pub never_falls : {X : Type 0} (key : X → ℕ) (xs : List X) → Rising key xs → IsNonDecreasingBy key xs
never_falls key [] r i j d le lt = absurd (omega arith)
never_falls key (x ∷ xs) r zero zero d le lt = omega arith
never_falls key (x ∷ xs) r zero (suc j) d le lt = all_at key (key x) xs j d r.0 (omega arith)
never_falls key (x ∷ xs) r (suc i) zero d le lt = absurd (omega arith)
never_falls key (x ∷ xs) r (suc i) (suc j) d le lt = never_falls key xs r.1 i j d (omega arith) (omega arith)

-- the place up to which keys are lower is that of the ticket
pub lower_is : {X : Type 0} (key : X → ℕ) (t : ℕ) (xs : List X) (i : ℕ) → i ≤ length xs → ((k : ℕ) (d : X) → k < i → ltb (key (get_or xs k d)) t ≡ true) → ((k : ℕ) (d : X) → i ≤ k → k < length xs → ltb (key (get_or xs k d)) t ≡ false) → i ≡ lower key t xs
lower_is key t [] i l a b = omega arith
lower_is key t (x ∷ xs) zero l a b = let e : ltb (key x) t ≡ false = b 0 x (omega arith) (omega arith) in rw e refl
lower_is key t (x ∷ xs) (suc i) l a b =
    let e : ltb (key x) t ≡ true = a 0 x (omega arith) in
    rw e (ap suc (lower_is key t xs i (omega arith) (λ k d h. a (suc k) d (omega arith)) (λ k d h g. b (suc k) d (omega arith) (omega arith))))
