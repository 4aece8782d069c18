-- Arguments that are read one after another.
use Rattle.std.proofs.Common.{◌≡◌, List, [], ◌∷◌, Option, Some, None, refl, sym, ap, ◌∙◌}
use Rattle.mql_meaning.specs.Changes.{then_some}
use Rattle.mql_meaning.specs.Natives.{Argument}
use Rattle.native_arguments.specs.Arguments.{itself, read_1, read_2, read_3}

-- one
read_one : {A : Type 0} (p : Argument → Option A) (xs : List Argument) (o : Option Argument) →
    read_1 itself xs ≡ o → read_1 p xs ≡ then_some o p
read_one p [] o e = ap (λ (m : Option Argument). then_some m p) e
read_one p (x ∷ []) o e = ap (λ (m : Option Argument). then_some m p) e
read_one p (x ∷ y ∷ xs) o e = ap (λ (m : Option Argument). then_some m p) e

pub single_none : {A : Type 0} (p : Argument → Option A) (xs : List Argument) → read_1 itself xs ≡ None →
    read_1 p xs ≡ None
single_none p xs e = read_one p xs None e

pub single_first : {A : Type 0} (p : Argument → Option A) (xs : List Argument) (x : Argument) →
    read_1 itself xs ≡ Some x → p x ≡ None → read_1 p xs ≡ None
single_first p xs x e h = read_one p xs (Some x) e ∙ h

pub single_all : {A : Type 0} (p : Argument → Option A) (xs : List Argument) (x : Argument) (a : A) →
    read_1 itself xs ≡ Some x → p x ≡ Some a → read_1 p xs ≡ Some a
single_all p xs x a e h = read_one p xs (Some x) e ∙ h

-- two
abbrev both : {A B : Type 0} → (Argument → Option A) → (Argument → Option B) → Argument → Argument → Option (A × B)
both p q x y = then_some (p x) (λ a. then_some (q y) (λ b. Some (a, b)))

read_two : {A B : Type 0} (p : Argument → Option A) (q : Argument → Option B) (xs : List Argument)
    (o : Option (Argument × Argument)) → read_2 itself itself xs ≡ o →
    read_2 p q xs ≡ then_some o (λ t. both p q t.0 t.1)
read_two p q [] o e = ap (λ (m : Option (Argument × Argument)). then_some m (λ t. both p q t.0 t.1)) e
read_two p q (x ∷ []) o e = ap (λ (m : Option (Argument × Argument)). then_some m (λ t. both p q t.0 t.1)) e
read_two p q (x ∷ y ∷ []) o e = ap (λ (m : Option (Argument × Argument)). then_some m (λ t. both p q t.0 t.1)) e
read_two p q (x ∷ y ∷ z ∷ xs) o e =
    ap (λ (m : Option (Argument × Argument)). then_some m (λ t. both p q t.0 t.1)) e

pub pair_none : {A B : Type 0} (p : Argument → Option A) (q : Argument → Option B) (xs : List Argument) →
    read_2 itself itself xs ≡ None → read_2 p q xs ≡ None
pair_none p q xs e = read_two p q xs None e

pub pair_first : {A B : Type 0} (p : Argument → Option A) (q : Argument → Option B) (xs : List Argument)
    (x y : Argument) → read_2 itself itself xs ≡ Some (x, y) → p x ≡ None → read_2 p q xs ≡ None
pair_first p q xs x y e h =
    read_two p q xs (Some (x, y)) e ∙ ap (λ m. then_some m (λ a. then_some (q y) (λ b. Some (a, b)))) h

pub pair_all : {A B : Type 0} (p : Argument → Option A) (q : Argument → Option B) (xs : List Argument)
    (x y : Argument) (a : A) (b : B) → read_2 itself itself xs ≡ Some (x, y) → p x ≡ Some a → q y ≡ Some b →
    read_2 p q xs ≡ Some (a, b)
pair_all p q xs x y a b e h g =
    read_two p q xs (Some (x, y)) e
    ∙ ap (λ m. then_some m (λ c. then_some (q y) (λ d. Some (c, d)))) h
    ∙ ap (λ m. then_some m (λ d. Some (a, d))) g

-- three
abbrev three_of : {A B C : Type 0} → (Argument → Option A) → (Argument → Option B) → (Argument → Option C)
    → Argument → Argument → Argument → Option (A × B × C)
three_of p q r x y z = then_some (p x) (λ a. then_some (q y) (λ b. then_some (r z) (λ c. Some (a, b, c))))

read_three : {A B C : Type 0} (p : Argument → Option A) (q : Argument → Option B) (r : Argument → Option C)
    (xs : List Argument) (o : Option (Argument × Argument × Argument)) → read_3 itself itself itself xs ≡ o →
    read_3 p q r xs ≡ then_some o (λ t. three_of p q r t.0 t.1 t.2)
read_three p q r [] o e = ap (λ (m : Option (Argument × Argument × Argument)). then_some m (λ t. three_of p q r t.0 t.1 t.2)) e
read_three p q r (x ∷ []) o e =
    ap (λ (m : Option (Argument × Argument × Argument)). then_some m (λ t. three_of p q r t.0 t.1 t.2)) e
read_three p q r (x ∷ y ∷ []) o e =
    ap (λ (m : Option (Argument × Argument × Argument)). then_some m (λ t. three_of p q r t.0 t.1 t.2)) e
read_three p q r (x ∷ y ∷ z ∷ []) o e =
    ap (λ (m : Option (Argument × Argument × Argument)). then_some m (λ t. three_of p q r t.0 t.1 t.2)) e
read_three p q r (x ∷ y ∷ z ∷ w ∷ xs) o e =
    ap (λ (m : Option (Argument × Argument × Argument)). then_some m (λ t. three_of p q r t.0 t.1 t.2)) e

pub triple_none : {A B C : Type 0} (p : Argument → Option A) (q : Argument → Option B) (r : Argument → Option C)
    (xs : List Argument) → read_3 itself itself itself xs ≡ None → read_3 p q r xs ≡ None
triple_none p q r xs e = read_three p q r xs None e

pub triple_first : {A B C : Type 0} (p : Argument → Option A) (q : Argument → Option B) (r : Argument → Option C)
    (xs : List Argument) (x y z : Argument) → read_3 itself itself itself xs ≡ Some (x, y, z) → p x ≡ None →
    read_3 p q r xs ≡ None
triple_first p q r xs x y z e h =
    read_three p q r xs (Some (x, y, z)) e
    ∙ ap (λ m. then_some m (λ a. then_some (q y) (λ b. then_some (r z) (λ c. Some (a, b, c))))) h

pub triple_all : {A B C : Type 0} (p : Argument → Option A) (q : Argument → Option B) (r : Argument → Option C)
    (xs : List Argument) (x y z : Argument) (a : A) (b : B) (c : C) →
    read_3 itself itself itself xs ≡ Some (x, y, z) → p x ≡ Some a → q y ≡ Some b → r z ≡ Some c →
    read_3 p q r xs ≡ Some (a, b, c)
triple_all p q r xs x y z a b c e h g k =
    read_three p q r xs (Some (x, y, z)) e
    ∙ ap (λ m. then_some m (λ u. then_some (q y) (λ v. then_some (r z) (λ w. Some (u, v, w))))) h
    ∙ ap (λ m. then_some m (λ v. then_some (r z) (λ w. Some (a, v, w)))) g
    ∙ ap (λ m. then_some m (λ w. Some (a, b, w))) k
