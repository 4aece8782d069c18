-- The arguments of ArrayCopy, read one after another.
use Rattle.std.proofs.Common.{◌≡◌, ◌≢◌, ℤ, List, [], ◌∷◌, length, get_or, Option, Some, None, Result, refl, sym, ap, ◌∙◌, subst, arith}
use Rattle.mql_meaning.specs.declared.cell.Cell.{Cell}
use Rattle.mql_meaning.specs.declared.store.Store.{Store}
use Rattle.mql_meaning.specs.Changes.{Change, Out, Over, Stuck, after, the, then_some}
use Rattle.mql_meaning.specs.Natives.{Argument, NativeDone, copies, copies_of}
use Rattle.store_cells.specs.declared.fault.Fault.{Fault}
use Rattle.native_arguments.specs.declared.argument.Argument as code
use Rattle.native_arguments.specs.declared.done.NativeDone as done
use Rattle.native_arguments.specs.Arguments.{all_shown, cell_in, number_in, shown}
use Rattle.native_arguments.specs.Done.{Comes}
use Rattle.native_arguments.proofs.Agrees.{agree_cell, agree_number}
use Rattle.native_array_functions.specs.Reading.{CopyRead, read_5}

-- one part after another
step : {A R : Type 0} (a : Out A) (o : Option A) (g : A → Change NativeDone) (h : A → Option R)
    (f : R → Change NativeDone) (s : Store) → a ≡ the o s → ((u : A) → g u s ≡ after (the (h u) s) f) →
    after a g ≡ after (the (then_some o h) s) f
step a None g h f s e k = ap (λ x. after x g) e
step a (Some u) g h f s e k = ap (λ x. after x g) e ∙ k u

-- ArrayCopy
abbrev copies_read : CopyRead → Change NativeDone
copies_read r = copies r.target r.source r.at r.start r.count

pub copies_by : (xs : List Argument) (s : Store) → copies_of xs s ≡ after (the (read_5 xs) s) copies_read
copies_by [] s = refl
copies_by (a ∷ []) s = refl
copies_by (a ∷ b ∷ []) s = refl
copies_by (a ∷ b ∷ c ∷ []) s = refl
copies_by (a ∷ b ∷ c ∷ d ∷ []) s = refl
copies_by (a ∷ b ∷ c ∷ d ∷ e ∷ []) s =
    step _ (cell_in a) _ _ copies_read s (agree_cell a s) (λ t.
    step _ (cell_in b) _ _ copies_read s (agree_cell b s) (λ u.
    step _ (number_in c) _ _ copies_read s (agree_number c s) (λ i.
    step _ (number_in d) _ _ copies_read s (agree_number d s) (λ j.
    step _ (number_in e) _ _ copies_read s (agree_number e s) (λ k. refl)))))
copies_by (a ∷ b ∷ c ∷ d ∷ e ∷ f ∷ xs) s = refl

pub copies_none : (xs : List Argument) (s : Store) → read_5 xs ≡ None → copies_of xs s ≡ Over Stuck s
copies_none xs s e = copies_by xs s ∙ ap (λ o. after (the o s) copies_read) e

pub copies_some : (xs : List Argument) (p : CopyRead) (r : Result done.NativeDone Fault) (s : Store) →
    read_5 xs ≡ Some p → Comes (copies p.target p.source p.at p.start p.count s) r s →
    Comes (copies_of xs s) r s
copies_some xs p r s e h =
    subst (λ (o : Out NativeDone). Comes o r s)
    (sym (copies_by xs s ∙ ap (λ o. after (the o s) copies_read) e)) h

-- five arguments
pub five_are : (xs : List code.Argument) (a b c d e : code.Argument) → length xs ≡ 5 → a ≡ get_or xs 0 a →
    b ≡ get_or xs 1 b → c ≡ get_or xs 2 c → d ≡ get_or xs 3 d → e ≡ get_or xs 4 e →
    all_shown xs ≡ shown a ∷ shown b ∷ shown c ∷ shown d ∷ shown e ∷ []
five_are [] a b c d e l f g h i j = absurd (omega (arith, l))
five_are (p ∷ []) a b c d e l f g h i j = absurd (omega (arith, l))
five_are (p ∷ q ∷ []) a b c d e l f g h i j = absurd (omega (arith, l))
five_are (p ∷ q ∷ r ∷ []) a b c d e l f g h i j = absurd (omega (arith, l))
five_are (p ∷ q ∷ r ∷ s ∷ []) a b c d e l f g h i j = absurd (omega (arith, l))
five_are (p ∷ q ∷ r ∷ s ∷ t ∷ []) a b c d e l f g h i j =
    rw (sym f) (rw (sym g) (rw (sym h) (rw (sym i) (rw (sym j) refl))))
five_are (p ∷ q ∷ r ∷ s ∷ t ∷ u ∷ xs) a b c d e l f g h i j = absurd (omega (arith, l))

pub five_are_not : (xs : List code.Argument) → length xs ≢ 5 → read_5 (all_shown xs) ≡ None
five_are_not [] h = refl
five_are_not (p ∷ []) h = refl
five_are_not (p ∷ q ∷ []) h = refl
five_are_not (p ∷ q ∷ r ∷ []) h = refl
five_are_not (p ∷ q ∷ r ∷ s ∷ []) h = refl
five_are_not (p ∷ q ∷ r ∷ s ∷ t ∷ []) h = absurd (h refl)
five_are_not (p ∷ q ∷ r ∷ s ∷ t ∷ u ∷ xs) h = refl

-- what is read where one is not what it should be
abbrev read_of : Option Cell → Option Cell → Option ℤ → Option ℤ → Option ℤ → Option CopyRead
read_of t u i j k =
    then_some t (λ target. then_some u (λ source. then_some i (λ at. then_some j (λ start.
    then_some k (λ count.
    Some (record { target = target; source = source; at = at; start = start; count = count }))))))

no_second : (t : Option Cell) (i j k : Option ℤ) → read_of t None i j k ≡ None
no_second None i j k = refl
no_second (Some t) i j k = refl

no_third : (t u : Option Cell) (j k : Option ℤ) → read_of t u None j k ≡ None
no_third None u j k = refl
no_third (Some t) None j k = refl
no_third (Some t) (Some u) j k = refl

no_fourth : (t u : Option Cell) (i k : Option ℤ) → read_of t u i None k ≡ None
no_fourth None u i k = refl
no_fourth (Some t) None i k = refl
no_fourth (Some t) (Some u) None k = refl
no_fourth (Some t) (Some u) (Some i) k = refl

no_fifth : (t u : Option Cell) (i j : Option ℤ) → read_of t u i j None ≡ None
no_fifth None u i j = refl
no_fifth (Some t) None i j = refl
no_fifth (Some t) (Some u) None j = refl
no_fifth (Some t) (Some u) (Some i) None = refl
no_fifth (Some t) (Some u) (Some i) (Some j) = refl

abbrev these : Argument → Argument → Argument → Argument → Argument → List Argument
these a b c d e = a ∷ b ∷ c ∷ d ∷ e ∷ []

pub read_first : (xs : List Argument) (a b c d e : Argument) → xs ≡ these a b c d e → cell_in a ≡ None →
    read_5 xs ≡ None
read_first xs a b c d e h n =
    ap read_5 h ∙ ap (λ (o : Option Cell). read_of o (cell_in b) (number_in c) (number_in d) (number_in e)) n

pub read_second : (xs : List Argument) (a b c d e : Argument) → xs ≡ these a b c d e → cell_in b ≡ None →
    read_5 xs ≡ None
read_second xs a b c d e h n =
    ap read_5 h ∙ ap (λ (o : Option Cell). read_of (cell_in a) o (number_in c) (number_in d) (number_in e)) n
    ∙ no_second (cell_in a) (number_in c) (number_in d) (number_in e)

pub read_third : (xs : List Argument) (a b c d e : Argument) → xs ≡ these a b c d e → number_in c ≡ None →
    read_5 xs ≡ None
read_third xs a b c d e h n =
    ap read_5 h ∙ ap (λ (o : Option ℤ). read_of (cell_in a) (cell_in b) o (number_in d) (number_in e)) n
    ∙ no_third (cell_in a) (cell_in b) (number_in d) (number_in e)

pub read_fourth : (xs : List Argument) (a b c d e : Argument) → xs ≡ these a b c d e → number_in d ≡ None →
    read_5 xs ≡ None
read_fourth xs a b c d e h n =
    ap read_5 h ∙ ap (λ (o : Option ℤ). read_of (cell_in a) (cell_in b) (number_in c) o (number_in e)) n
    ∙ no_fourth (cell_in a) (cell_in b) (number_in c) (number_in e)

pub read_fifth : (xs : List Argument) (a b c d e : Argument) → xs ≡ these a b c d e → number_in e ≡ None →
    read_5 xs ≡ None
read_fifth xs a b c d e h n =
    ap read_5 h ∙ ap (λ (o : Option ℤ). read_of (cell_in a) (cell_in b) (number_in c) (number_in d) o) n
    ∙ no_fifth (cell_in a) (cell_in b) (number_in c) (number_in d)

pub read_all : (xs : List Argument) (a b c d e : Argument) (t u : Cell) (i j k : ℤ) → xs ≡ these a b c d e →
    cell_in a ≡ Some t → cell_in b ≡ Some u → number_in c ≡ Some i → number_in d ≡ Some j →
    number_in e ≡ Some k →
    read_5 xs ≡ Some (record { target = t; source = u; at = i; start = j; count = k })
read_all xs a b c d e t u i j k h l m n o p =
    ap read_5 h ∙ ap (λ (q : Option Cell). read_of q (cell_in b) (number_in c) (number_in d) (number_in e)) l
    ∙ ap (λ (q : Option Cell). read_of (Some t) q (number_in c) (number_in d) (number_in e)) m
    ∙ ap (λ (q : Option ℤ). read_of (Some t) (Some u) q (number_in d) (number_in e)) n
    ∙ ap (λ (q : Option ℤ). read_of (Some t) (Some u) (Some i) q (number_in e)) o
    ∙ ap (λ (q : Option ℤ). read_of (Some t) (Some u) (Some i) (Some j) q) p
