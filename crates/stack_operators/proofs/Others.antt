-- Operators that compare doubles, strings and pointers.
use Rattle.std.proofs.Common.{◌≡◌, ℕ, ℤ, pos, List, Option, Some, refl, sym, subst}
use Rattle.std.specs.Prelude.{Result}
use Rattle.fx8.specs.declared.int_operator.IntOperator.{IntOperator}
use Rattle.fx8.specs.declared.int_operator.IntOperator.TheVariants as op
use Rattle.mql_mean.specs.declared.value.Value.{Value}
use Rattle.mql_meaning.specs.declared.store.Store.{Store}
use Rattle.mql_meaning.specs.declared.types.Sort.TheVariants as sort
use Rattle.mql_meaning.specs.Changes.{Out, ◌>>=◌, after, the}
use Rattle.mql_meaning.specs.Operators.{binary, compare, on_doubles, on_strings, order}
use Rattle.mql_meaning.specs.Places.{serial_of}
use Rattle.store_cells.specs.declared.fault.Fault.{Fault}
use Rattle.store_cells.specs.Changes.{Gives, Leads}

pub doubles_compare : (o : IntOperator) (x y : ℤ) (r : Result Value Fault) (store : Store) → (o ≡ op.Add → ⊥) →
    (o ≡ op.Subtract → ⊥) → (o ≡ op.Multiply → ⊥) → (o ≡ op.Divide → ⊥) → Gives (compare o x y) r store →
    Gives (on_doubles o x y) r store
doubles_compare op.Add x y r store a s m d h = absurd (a refl)
doubles_compare op.Subtract x y r store a s m d h = absurd (s refl)
doubles_compare op.Multiply x y r store a s m d h = absurd (m refl)
doubles_compare op.Divide x y r store a s m d h = absurd (d refl)
doubles_compare op.Remainder x y r store a s m d h = h
doubles_compare op.ShiftLeft x y r store a s m d h = h
doubles_compare op.ShiftRight x y r store a s m d h = h
doubles_compare op.BitAnd x y r store a s m d h = h
doubles_compare op.BitOr x y r store a s m d h = h
doubles_compare op.BitXor x y r store a s m d h = h
doubles_compare op.Less x y r store a s m d h = h
doubles_compare op.LessOrEqual x y r store a s m d h = h
doubles_compare op.Greater x y r store a s m d h = h
doubles_compare op.GreaterOrEqual x y r store a s m d h = h
doubles_compare op.Equal x y r store a s m d h = h
doubles_compare op.NotEqual x y r store a s m d h = h

same_strings : (o : IntOperator) (s t : List ℕ) (r : Result Value Fault) (store : Store) → (o ≡ op.Add → ⊥) →
    Gives (compare o (order s t) (pos 0)) r store → Gives (on_strings o s t) r store
same_strings op.Add s t r store a h = absurd (a refl)
same_strings op.Subtract s t r store a h = h
same_strings op.Multiply s t r store a h = h
same_strings op.Divide s t r store a h = h
same_strings op.Remainder s t r store a h = h
same_strings op.ShiftLeft s t r store a h = h
same_strings op.ShiftRight s t r store a h = h
same_strings op.BitAnd s t r store a h = h
same_strings op.BitOr s t r store a h = h
same_strings op.BitXor s t r store a h = h
same_strings op.Less s t r store a h = h
same_strings op.LessOrEqual s t r store a h = h
same_strings op.Greater s t r store a h = h
same_strings op.GreaterOrEqual s t r store a h = h
same_strings op.Equal s t r store a h = h
same_strings op.NotEqual s t r store a h = h

pub strings_compare : (o : IntOperator) (s t u v : List ℕ) (r : Result Value Fault) (store : Store) → (o ≡ op.Add → ⊥) →
    u ≡ s → v ≡ t → Gives (compare o (order u v) (pos 0)) r store → Gives (on_strings o s t) r store
strings_compare o s t u v r store a e f h =
    same_strings o s t r store a
    (subst (λ (l : List ℕ). Gives (compare o (order s l) (pos 0)) r store) f
    (subst (λ (l : List ℕ). Gives (compare o (order l v) (pos 0)) r store) e h))

serials : (o : IntOperator) (x y : Option ℕ) (a b : ℕ) (store : Store) → x ≡ Some a → y ≡ Some b →
    after (the x store) (λ (p : ℕ). the y >>= λ (q : ℕ). compare o (pos p) (pos q)) ≡ compare o (pos a) (pos b) store
serials o x y a b store e f = rw (e, f) refl

pub both_serials : (o : IntOperator) (x y : Value) (a b : ℕ) (r : Result Value Fault) (store : Store) →
    serial_of x ≡ Some a → serial_of y ≡ Some b → Gives (compare o (pos a) (pos b)) r store →
    Gives (binary o sort.Pointer x y) r store
both_serials o x y a b r store e f h =
    subst (λ (out : Out Value). Leads out r store) (sym (serials o (serial_of x) (serial_of y) a b store e f)) h

pub compare_same : (o : IntOperator) (x y a b : ℤ) (r : Result Value Fault) (store : Store) → a ≡ x → b ≡ y →
    Gives (compare o a b) r store → Gives (compare o x y) r store
compare_same o x y a b r store e f h =
    subst (λ (z : ℤ). Gives (compare o x z) r store) f (subst (λ (z : ℤ). Gives (compare o z b) r store) e h)
