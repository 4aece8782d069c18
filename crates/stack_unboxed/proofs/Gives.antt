-- What operators and effects give of operands that take no memory.
use Rattle.std.proofs.Common.{◌≡◌, ℕ, true, false, List, [], ◌∷◌, Option, Some, None, Result, Ok, refl, sym, ap, ◌∙◌, subst}
use Rattle.std.specs.Prelude.{ℤ, slice_get}
use Rattle.fx8.specs.declared.int_kind.IntKind.{IntKind}
use Rattle.fx8.specs.declared.int_operator.IntOperator.{IntOperator}
use Rattle.fx8.specs.Integers.{wrapped}
use Rattle.mql_mean.specs.declared.value.Value.{Value, out-Value}
use Rattle.mql_mean.specs.declared.value.Value.TheVariants as value
use denote.Hole.Carrier.{out}
use Rattle.mql_meaning.specs.declared.operator.Operator.{Operator}
use Rattle.mql_meaning.specs.declared.operator.Operator.TheVariants as operator
use Rattle.mql_meaning.specs.declared.types.Sort.TheVariants as sort
use Rattle.mql_meaning.specs.declared.place.Place.{Place}
use Rattle.mql_meaning.specs.declared.place.Root.{Root}
use Rattle.mql_meaning.specs.declared.store.Frame.{Frame}
use Rattle.mql_meaning.specs.declared.store.Store.{Store}
use Rattle.mql_meaning.specs.declared.types.VarType.{VarType}
use Rattle.mql_meaning.specs.declared.tree.Class.{Class}
use Rattle.mql_meaning.specs.Apply.{apply}
use Rattle.mql_meaning.specs.Changes.{Change, Out, Ended, Done, Over, after, becomes, give, the, top}
use Rattle.mql_meaning.specs.Operands as meaning
use Rattle.mql_meaning.specs.Operators.{kind_of_result, no_fault}
use Rattle.fx8.specs.declared.fix_fault.FixFault.{FixFault}
use Rattle.mql_meaning.specs.Places.{at_root, set_line, write}
use Rattle.stack_unboxed.specs.declared.unboxed.Unboxed.{Unboxed}
use Rattle.stack_unboxed.specs.declared.unboxed.Unboxed.TheVariants as unboxed
use Rattle.stack_unboxed.specs.declared.unboxed.Number.{Number}
use Rattle.stack_code.specs.declared.code.Code.{Code}
use Rattle.stack_code.specs.declared.code.Effect.TheVariants as effect
use Rattle.stack_code.specs.Machine.{constant, does_effect, then_upon}
use Rattle.stack_effects.specs.Works.{applies}
use Rattle.stack_unboxed.specs.Unboxed.{Did, Gave, Tells, Told, Made, Names, Holds, Computes, cell_of, boxed, upon}
use Rattle.stack_unboxed.proofs.Holders.{read_so}

pub local_given : (cs : List Class) (local : ℕ) (r : Root) (store : Store) → Names (Some r) local store →
    Tells (Some (unboxed.Variable r)) (apply cs (operator.Local local) []) store
local_given cs local r store e = ap (λ (o : Out Place). after o (λ (p : Place). give (meaning.At p))) e

pub number_read : (cs : List Class) (r : Root) (m : Number) (store : Store) → Holds (Some m) (cell_of r store) →
    Tells (Some (unboxed.Number m)) (apply cs operator.Read (boxed (unboxed.Variable r) ∷ [])) store
number_read cs r m store e =
    ap (λ (o : Out Value). after o (λ (v : Value). give (meaning.Val v))) (read_so r m.kind m.number store e)

pub number_converted : (cs : List Class) (k j : IntKind) (x y : ℤ) (store : Store) → y ≡ wrapped k x →
    apply cs (operator.Convert (sort.Number k)) (meaning.Val (value.Num j x) ∷ []) store
    ≡ Done (meaning.Val (value.Num k y)) store
unfolding out-Value out
number_converted cs k j x y store e = ap (λ (z : ℤ). Done (meaning.Val (value.Num k z)) store) (sym e)

pub number_kept : (cs : List Class) (m : Number) (r : Root) (s s' : Store) →
    Made true (write (value.Num m.kind m.number) (at_root r)) s s' →
    apply cs operator.Keep (boxed (unboxed.Number m) ∷ boxed (unboxed.Variable r) ∷ []) s ≡ Done (boxed (unboxed.Number m)) s'
number_kept cs m r s s' e =
    ap (λ (o : Out (Unit {0})). after o (λ (_ : Unit {0}). give (meaning.Val (value.Num m.kind m.number)))) e

pub told_given : (f : Change meaning.Operand) (told : Option Unboxed) (s : Store) → Tells told f s → Gave told f s s
told_given f (Some x) s e = e
told_given f None s e = refl

pub none_did : (cs : List Class) (o : Operator) (x : Unboxed) (p p' : List Unboxed) (s : Store) →
    Tells (Some x) (apply cs o []) s → p' ≡ x ∷ p → Did (applies 0 cs o) (Ok true) p p' s s
none_did cs o x p p' s e f ops =
    ap (λ (r : Out meaning.Operand). after r (λ (y : meaning.Operand). give (y ∷ upon p ops))) e
    ∙ ap (λ (q : List Unboxed). Done (upon q ops) s) (sym f)

pub one_did : (cs : List Class) (o : Operator) (x y : Unboxed) (p rest p' : List Unboxed) (s s' : Store) →
    p ≡ x ∷ rest → Gave (Some y) (apply cs o (boxed x ∷ [])) s s' → p' ≡ y ∷ rest →
    Did (applies 1 cs o) (Ok true) p p' s s'
one_did cs o x y p rest p' s s' d e f ops =
    ap (λ (q : List Unboxed). applies 1 cs o (upon q ops) s) d
    ∙ ap (λ (r : Out meaning.Operand). after r (λ (z : meaning.Operand). give (z ∷ upon rest ops))) e
    ∙ ap (λ (q : List Unboxed). Done (upon q ops) s') (sym f)

pub two_did : (cs : List Class) (o : Operator) (x y z : Unboxed) (p others rest p' : List Unboxed) (s s' : Store) →
    p ≡ y ∷ others → others ≡ x ∷ rest → Gave (Some z) (apply cs o (boxed x ∷ boxed y ∷ [])) s s' →
    p' ≡ z ∷ rest → Did (applies 2 cs o) (Ok true) p p' s s'
two_did cs o x y z p others rest p' s s' d d' e f ops =
    ap (λ (q : List Unboxed). applies 2 cs o (upon q ops) s) (d ∙ ap (λ (q : List Unboxed). y ∷ q) d')
    ∙ ap (λ (r : Out meaning.Operand). after r (λ (w : meaning.Operand). give (w ∷ upon rest ops))) e
    ∙ ap (λ (q : List Unboxed). Done (upon q ops) s') (sym f)

pub numbers_given : (cs : List Class) (o : IntOperator) (k : IntKind) (x y : Number) (z : ℤ) (s : Store) →
    Computes (Some z) o k (wrapped k x.number) (wrapped k y.number) →
    apply cs (operator.Binary o (sort.Number k)) (boxed (unboxed.Number x) ∷ boxed (unboxed.Number y) ∷ []) s
    ≡ Done (meaning.Val (value.Num (kind_of_result o k) z)) s
unfolding out-Value out
numbers_given cs o k x y z s e =
    ap (λ (r : Result ℤ FixFault). after (after (no_fault r s) (λ (n : ℤ). give (value.Num (kind_of_result o k) n)))
    (λ (v : Value). give (meaning.Val v))) e

pub constant_did : (code : Code) (ts : List VarType) (k : ℕ) (m : Number) (p p' : List Unboxed) (s : Store) →
    Told (Some m) (slice_get code.constants k) → p' ≡ unboxed.Number m ∷ p →
    Did (does_effect code ts (effect.Constant k)) (Ok true) p p' s s
unfolding out-Value out
constant_did code ts k m p p' s e f ops =
    ap (λ (o : Option Value). after (the o s) (λ (v : Value). then_upon (constant v) (upon p ops))) e
    ∙ ap (λ (q : List Unboxed). Done (upon q ops) s) (sym f)

pub drop_did : (code : Code) (ts : List VarType) (x : Unboxed) (p p' : List Unboxed) (s : Store) →
    p ≡ x ∷ p' → Did (does_effect code ts effect.Drop) (Ok true) p p' s s
drop_did code ts x p p' s e ops = ap (λ (q : List Unboxed). does_effect code ts effect.Drop (upon q ops) s) e

-- a line is in force, or there is no function
pub line_is : (line : ℕ) (u : Unit {0}) (s s' : Store) → set_line line s ≡ Done u s' → Made true (set_line line) s s'
line_is line u s s' e = e

store_left : {A : Type 0} → Out A → Store
store_left (Done a s) = s
store_left (Over why s) = s

IsOver : {A : Type 0} → Out A → Type 0
IsOver (Done a s) = ⊥
IsOver (Over why s) = Unit {0}

none_lost : (o : Option Frame) (new s s' : Store) (why : Ended) →
    after (the o s) (λ (_ : Frame). becomes new) ≡ Over why s' → s' ≡ s
unfolding store_left IsOver
none_lost None new s s' why e = sym (ap store_left e)
none_lost (Some f) new s s' why e = absurd (subst (λ (o : Out (Unit {0})). IsOver o) (sym e) (tt {0}))

pub no_line : (line : ℕ) (s s' : Store) (why : Ended) → set_line line s ≡ Over why s' → s' ≡ s
no_line line s s' why e = none_lost (top s) _ s s' why e

pub line_did : (code : Code) (ts : List VarType) (line : ℕ) (p : List Unboxed) (s s' : Store) →
    Made true (set_line line) s s' → Did (does_effect code ts (effect.Line line)) (Ok true) p p s s'
line_did code ts line p s s' e ops = ap (λ (o : Out (Unit {0})). after o (λ _. give (upon p ops))) e

-- two operands are put back
pub two_back : (cs : List Class) (o : Operator) (x y : Unboxed) (p others rest q p' : List Unboxed) (s s' : Store) →
    p ≡ y ∷ others → others ≡ x ∷ rest → q ≡ x ∷ rest → p' ≡ y ∷ q → Gave None (apply cs o (boxed x ∷ boxed y ∷ [])) s s' →
    Did (applies 2 cs o) (Ok false) p p' s s'
two_back cs o x y p others rest q p' s s' d d' e e' same =
    (e' ∙ ap (λ (l : List Unboxed). y ∷ l) (e ∙ sym d') ∙ sym d, same)
