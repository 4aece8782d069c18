-- Lists one of whose items is changed, and lists with one more item at the end.
use Rattle.std.proofs.Common.{◌≡◌, ℕ, zero, suc, List, [], ◌∷◌, ◌++◌, length, take, Some, refl, sym, ap, subst, arith}
use Rattle.std.specs.Prelude.{slice_get}
use Rattle.mql_meaning.specs.Places.{changed}
use Rattle.stack_validity.proofs.Values.{some_same, none_some}

-- an item with a property, where one item is changed and has it afterwards too
pub record Stays {A : Type 0} (P : ℕ → A → Type 0) (xs : List A) (j : ℕ) : Type 0 where
  pub item : A
  pub there : slice_get xs j ≡ Some item
  pub has : P j item

pub changed_stays : {A : Type 0} (P : ℕ → A → Type 0) (xs : List A) (i : ℕ) (f : A → A) → ((a : A) → P i a → P i (f a)) → (j : ℕ) (a : A) → slice_get xs j ≡ Some a → P j a → Stays P (changed xs i f) j
changed_stays P [] i f h j a e p = absurd (none_some e)
changed_stays P (x ∷ xs) zero f h zero a e p = record { item = f x; there = refl; has = h x (subst (P zero) (sym (some_same e)) p) }
changed_stays P (x ∷ xs) zero f h (suc j) a e p = record { item = a; there = e; has = p }
changed_stays P (x ∷ xs) (suc i) f h zero a e p = record { item = a; there = e; has = p }
changed_stays P (x ∷ xs) (suc i) f h (suc j) a e p = let r = changed_stays (λ k. P (suc k)) xs i f h j a e p in record { item = r.item; there = r.there; has = r.has }

-- all items have a property, also where one is changed
pub changed_all : {A : Type 0} (P : ℕ → A → Type 0) (xs : List A) (i : ℕ) (f : A → A) → ((j : ℕ) (a : A) → slice_get xs j ≡ Some a → P j a) → ((a : A) → P i a → P i (f a)) → (j : ℕ) (b : A) → slice_get (changed xs i f) j ≡ Some b → P j b
changed_all P [] i f h k j b e = absurd (none_some e)
changed_all P (x ∷ xs) zero f h k zero b e = subst (P zero) (some_same e) (k x (h zero x refl))
changed_all P (x ∷ xs) zero f h k (suc j) b e = h (suc j) b e
changed_all P (x ∷ xs) (suc i) f h k zero b e = h zero b e
changed_all P (x ∷ xs) (suc i) f h k (suc j) b e = changed_all (λ n. P (suc n)) xs i f (λ n. h (suc n)) k j b e

pub changed_length : {A : Type 0} (xs : List A) (i : ℕ) (f : A → A) → length (changed xs i f) ≡ length xs
changed_length [] i f = refl
changed_length (x ∷ xs) zero f = refl
changed_length (x ∷ xs) (suc i) f = let r = changed_length xs i f in omega (arith, r)

-- one more item at the end
pub more_length : {A : Type 0} (xs : List A) (x : A) → length (xs ++ x ∷ []) ≡ suc (length xs)
more_length [] x = refl
more_length (y ∷ xs) x = let r = more_length xs x in omega (arith, r)

pub more_last : {A : Type 0} (xs : List A) (x : A) → slice_get (xs ++ x ∷ []) (length xs) ≡ Some x
more_last [] x = refl
more_last (y ∷ xs) x = more_last xs x

pub more_other : {A : Type 0} (xs : List A) (x y : A) (i : ℕ) → slice_get xs i ≡ Some y → slice_get (xs ++ x ∷ []) i ≡ Some y
more_other [] x y i e = absurd (none_some e)
more_other (z ∷ xs) x y zero e = e
more_other (z ∷ xs) x y (suc i) e = more_other xs x y i e

pub more_taken : {A : Type 0} (xs : List A) (x : A) → take (length xs) (xs ++ x ∷ []) ≡ xs
more_taken [] x = refl
more_taken (y ∷ xs) x = ap (λ ys. y ∷ ys) (more_taken xs x)

pub more_changed_last : {A : Type 0} (xs : List A) (x : A) (f : A → A) → changed (xs ++ x ∷ []) (length xs) f ≡ xs ++ f x ∷ []
more_changed_last [] x f = refl
more_changed_last (y ∷ xs) x f = ap (λ ys. y ∷ ys) (more_changed_last xs x f)

pub more_changed_other : {A : Type 0} (xs : List A) (x : A) (i : ℕ) (f : A → A) → (i ≡ length xs → ⊥) → changed (xs ++ x ∷ []) i f ≡ changed xs i f ++ x ∷ []
more_changed_other [] x zero f n = absurd (n refl)
more_changed_other [] x (suc i) f n = refl
more_changed_other (y ∷ xs) x zero f n = refl
more_changed_other (y ∷ xs) x (suc i) f n = ap (λ ys. y ∷ ys) (more_changed_other xs x i f (λ e. n (ap suc e)))
