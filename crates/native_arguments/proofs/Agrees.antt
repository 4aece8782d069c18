-- What native functions do with arguments that are read.
use Rattle.std.proofs.Common.{◌≡◌, ℕ, ℤ, List, [], ◌∷◌, Option, Some, None, Result, refl, sym, ap, ◌∙◌, subst}
use Rattle.mql_mean.specs.declared.value.Value.{Value}
use Rattle.mql_meaning.specs.declared.cell.Cell.{Cell, out-Cell}
use Rattle.mql_meaning.specs.declared.store.Store.{Store}
use Rattle.mql_meaning.specs.Changes.{Change, Out, Done, Over, Stuck, after, the, then_some, ◌>>=◌}
use Rattle.mql_meaning.specs.Places.{number_of, value_at}
use Rattle.mql_meaning.specs.Operators.{string_of, units_of}
use Rattle.mql_meaning.specs.ArrayFunctions.{ArrayParts, array_of}
use Rattle.mql_meaning.specs.Natives.{Argument, Given, Lent, NativeDone, with_1, with_2, with_3, a_value, a_cell, a_number, a_double, a_string, lent_string, an_array}
use Rattle.store_cells.specs.declared.fault.Fault.{Fault}
use Rattle.native_arguments.specs.declared.done.NativeDone as code
use Rattle.native_arguments.specs.Arguments.{value_in, cell_in, number_in, double_in, string_in, lent_string_in, array_in, read_1, read_2, read_3}
use Rattle.native_arguments.specs.Done.{Comes}

-- readers read what the meaning reads
pub agree_value : (x : Argument) (s : Store) → a_value x s ≡ the (value_in x) s
agree_value (Given v) s = refl
agree_value (Lent c) s = refl

pub agree_cell : (x : Argument) (s : Store) → a_cell x s ≡ the (cell_in x) s
agree_cell (Given v) s = refl
agree_cell (Lent c) s = refl

pub agree_number : (x : Argument) (s : Store) → a_number x s ≡ the (number_in x) s
agree_number (Given v) s = refl
agree_number (Lent c) s = refl

pub agree_double : (x : Argument) (s : Store) → a_double x s ≡ the (double_in x) s
agree_double (Given v) s = refl
agree_double (Lent c) s = refl

pub agree_string : (x : Argument) (s : Store) → a_string x s ≡ the (string_in x) s
agree_string (Given v) s = refl
agree_string (Lent c) s = refl

pub agree_lent_string : (x : Argument) (s : Store) → lent_string x s ≡ the (lent_string_in x) s
agree_lent_string (Given v) s = refl
agree_lent_string (Lent c) s = refl

pub agree_array : (x : Argument) (s : Store) → an_array x s ≡ the (array_in x) s
agree_array (Given v) s = refl
agree_array (Lent c) s = refl

abbrev Agrees : {A : Type 0} → (Argument → Change A) → (Argument → Option A) → Type 0
Agrees a p = (x : Argument) (s : Store) → a x s ≡ the (p x) s

carried : (o p : Out NativeDone) (r : Result code.NativeDone Fault) (s : Store) → o ≡ p → Comes p r s → Comes o r s
carried o p r s e h = subst (λ (q : Out NativeDone). Comes q r s) (sym e) h

-- one
with_one : {A : Type 0} (a : Argument → Change A) (p : Argument → Option A) (h : Agrees a p)
    (f : A → Change NativeDone) (xs : List Argument) (s : Store) →
    with_1 a f xs s ≡ after (the (read_1 p xs) s) f
with_one a p h f [] s = refl
with_one a p h f (x ∷ []) s = ap (λ o. after o f) (h x s)
with_one a p h f (x ∷ y ∷ xs) s = refl

pub none_1 : {A : Type 0} (a : Argument → Change A) (p : Argument → Option A) (h : Agrees a p)
    (f : A → Change NativeDone) (xs : List Argument) (s : Store) → read_1 p xs ≡ None →
    with_1 a f xs s ≡ Over Stuck s
none_1 a p h f xs s e = with_one a p h f xs s ∙ ap (λ o. after (the o s) f) e

pub some_1 : {A : Type 0} (a : Argument → Change A) (p : Argument → Option A) (h : Agrees a p)
    (f : A → Change NativeDone) (xs : List Argument) (u : A) (r : Result code.NativeDone Fault) (s : Store) →
    read_1 p xs ≡ Some u → Comes (f u s) r s → Comes (with_1 a f xs s) r s
some_1 a p h f xs u r s e = carried _ (f u s) r s (with_one a p h f xs s ∙ ap (λ o. after (the o s) f) e)

-- two
two_then : {A B : Type 0} (b : Argument → Change B) (q : Argument → Option B) (g : Agrees b q)
    (f : A → B → Change NativeDone) (o : Option A) (y : Argument) (s : Store) →
    after (the o s) (λ u. b y >>= f u)
    ≡ after (the (then_some o (λ u. then_some (q y) (λ v. Some (u, v)))) s) (λ (t : A × B). f t.0 t.1)
two_then b q g f None y s = refl
two_then {A} {B} b q g f (Some u) y s = ap (λ (o : Out B). after o (f u)) (g y s) ∙ second (q y)
  where
    second : (m : Option B) →
        after (the m s) (f u) ≡ after (the (then_some m (λ v. Some (u, v))) s) (λ (t : A × B). f t.0 t.1)
    second None = refl
    second (Some v) = refl

with_two : {A B : Type 0} (a : Argument → Change A) (b : Argument → Change B) (p : Argument → Option A)
    (q : Argument → Option B) (h : Agrees a p) (g : Agrees b q) (f : A → B → Change NativeDone)
    (xs : List Argument) (s : Store) →
    with_2 a b f xs s ≡ after (the (read_2 p q xs) s) (λ (t : A × B). f t.0 t.1)
with_two a b p q h g f [] s = refl
with_two a b p q h g f (x ∷ []) s = refl
with_two a b p q h g f (x ∷ y ∷ []) s = ap (λ o. after o (λ u. b y >>= f u)) (h x s) ∙ two_then b q g f (p x) y s
with_two a b p q h g f (x ∷ y ∷ z ∷ xs) s = refl

pub none_2 : {A B : Type 0} (a : Argument → Change A) (b : Argument → Change B) (p : Argument → Option A)
    (q : Argument → Option B) (h : Agrees a p) (g : Agrees b q) (f : A → B → Change NativeDone)
    (xs : List Argument) (s : Store) → read_2 p q xs ≡ None → with_2 a b f xs s ≡ Over Stuck s
none_2 {A} {B} a b p q h g f xs s e =
    with_two a b p q h g f xs s ∙ ap (λ (o : Option (A × B)). after (the o s) (λ (t : A × B). f t.0 t.1)) e

pub some_2 : {A B : Type 0} (a : Argument → Change A) (b : Argument → Change B) (p : Argument → Option A)
    (q : Argument → Option B) (h : Agrees a p) (g : Agrees b q) (f : A → B → Change NativeDone)
    (xs : List Argument) (u : A) (v : B) (r : Result code.NativeDone Fault) (s : Store) →
    read_2 p q xs ≡ Some (u, v) → Comes (f u v s) r s → Comes (with_2 a b f xs s) r s
some_2 {A} {B} a b p q h g f xs u v r s e =
    carried _ (f u v s) r s (with_two a b p q h g f xs s
    ∙ ap (λ (o : Option (A × B)). after (the o s) (λ (t : A × B). f t.0 t.1)) e)

-- three
three_then : {A B C : Type 0} (b : Argument → Change B) (c : Argument → Change C) (q : Argument → Option B)
    (r : Argument → Option C) (g : Agrees b q) (k : Agrees c r) (f : A → B → C → Change NativeDone)
    (o : Option A) (y z : Argument) (s : Store) →
    after (the o s) (λ u. b y >>= λ v. c z >>= f u v)
    ≡ after (the (then_some o (λ u. then_some (q y) (λ v. then_some (r z) (λ w. Some (u, v, w))))) s)
    (λ (t : A × B × C). f t.0 t.1 t.2)
three_then b c q r g k f None y z s = refl
three_then {A} {B} {C} b c q r g k f (Some u) y z s =
    ap (λ (o : Out B). after o (λ v. c z >>= f u v)) (g y s) ∙ second (q y)
  where
    third : (v : B) (m : Option C) →
        after (the m s) (f u v) ≡ after (the (then_some m (λ w. Some (u, v, w))) s) (λ (t : A × B × C). f t.0 t.1 t.2)
    third v None = refl
    third v (Some w) = refl

    second : (m : Option B) →
        after (the m s) (λ v. c z >>= f u v)
        ≡ after (the (then_some m (λ v. then_some (r z) (λ w. Some (u, v, w)))) s) (λ (t : A × B × C). f t.0 t.1 t.2)
    second None = refl
    second (Some v) = ap (λ (o : Out C). after o (f u v)) (k z s) ∙ third v (r z)

with_three : {A B C : Type 0} (a : Argument → Change A) (b : Argument → Change B) (c : Argument → Change C)
    (p : Argument → Option A) (q : Argument → Option B) (r : Argument → Option C) (h : Agrees a p)
    (g : Agrees b q) (k : Agrees c r) (f : A → B → C → Change NativeDone) (xs : List Argument) (s : Store) →
    with_3 a b c f xs s ≡ after (the (read_3 p q r xs) s) (λ (t : A × B × C). f t.0 t.1 t.2)
with_three a b c p q r h g k f [] s = refl
with_three a b c p q r h g k f (x ∷ []) s = refl
with_three a b c p q r h g k f (x ∷ y ∷ []) s = refl
with_three a b c p q r h g k f (x ∷ y ∷ z ∷ []) s =
    ap (λ o. after o (λ u. b y >>= λ v. c z >>= f u v)) (h x s) ∙ three_then b c q r g k f (p x) y z s
with_three a b c p q r h g k f (x ∷ y ∷ z ∷ w ∷ xs) s = refl

pub none_3 : {A B C : Type 0} (a : Argument → Change A) (b : Argument → Change B) (c : Argument → Change C)
    (p : Argument → Option A) (q : Argument → Option B) (r : Argument → Option C) (h : Agrees a p)
    (g : Agrees b q) (k : Agrees c r) (f : A → B → C → Change NativeDone) (xs : List Argument) (s : Store) →
    read_3 p q r xs ≡ None → with_3 a b c f xs s ≡ Over Stuck s
none_3 {A} {B} {C} a b c p q r h g k f xs s e =
    with_three a b c p q r h g k f xs s
    ∙ ap (λ (o : Option (A × B × C)). after (the o s) (λ (t : A × B × C). f t.0 t.1 t.2)) e

pub some_3 : {A B C : Type 0} (a : Argument → Change A) (b : Argument → Change B) (c : Argument → Change C)
    (p : Argument → Option A) (q : Argument → Option B) (r : Argument → Option C) (h : Agrees a p)
    (g : Agrees b q) (k : Agrees c r) (f : A → B → C → Change NativeDone) (xs : List Argument) (u : A) (v : B)
    (w : C) (t : Result code.NativeDone Fault) (s : Store) → read_3 p q r xs ≡ Some (u, v, w) →
    Comes (f u v w s) t s → Comes (with_3 a b c f xs s) t s
some_3 {A} {B} {C} a b c p q r h g k f xs u v w t s e =
    carried _ (f u v w s) t s (with_three a b c p q r h g k f xs s
    ∙ ap (λ (o : Option (A × B × C)). after (the o s) (λ (t : A × B × C). f t.0 t.1 t.2)) e)
