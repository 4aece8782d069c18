-- What is read of the items of a list, one after another.
use Rattle.std.proofs.Common.{◌≡◌, ℕ, suc, add-one, ◌+◌, ◌<◌, List, [], ◌∷◌, ◌++◌, length, drop, get_or, append_assoc, append-nil, Option, Some, None, Result, Err, refl, sym, ap, ◌∙◌, subst}
use Rattle.std.specs.Result.{IsErrAnd}
use Rattle.std.proofs.Math.Seq.{drop-cons}
use Rattle.std.proofs.lemmas.Result.{err_from_is_err_and}
use Rattle.mql_views.specs.Cuts.{on}
use Rattle.mql_syntax.specs.Lists.{each}
use Rattle.mql_syntax.specs.Reads.{Reads, Shows}
use Rattle.mql_syntax.specs.declared.unread.Unread.{Unread}
use Rattle.mql_syntax.specs.declared.unread.Unread.TheVariants.{Nothing, OutOfMemory}

-- what was read before what is read
abbrev pub ahead : {A : Type 0} → List A → Option (List A) → Option (List A)
ahead ys (Some more) = Some (ys ++ more)
ahead ys None = None

pub ahead_none : {A : Type 0} (w : Option (List A)) → w ≡ ahead [] w
ahead_none (Some more) = refl
ahead_none None = refl

pub ahead_more : {A : Type 0} (ys : List A) (y : A) (w : Option (List A)) → ahead ys (on w (λ more. Some (y ∷ more))) ≡ ahead (ys ++ y ∷ []) w
ahead_more ys y (Some more) = ap Some (sym (append_assoc ys (y ∷ []) more))
ahead_more ys y None = refl

-- one more item that is read, or one that is not
pub each_more : {A B : Type 0} (f : A → Option B) (ys : List B) (x : A) (xs : List A) (y : B) → f x ≡ Some y → ahead ys (each f (x ∷ xs)) ≡ ahead (ys ++ y ∷ []) (each f xs)
each_more f ys x xs y e = ap (λ o. ahead ys (on o (λ y. on (each f xs) (λ more. Some (y ∷ more))))) e ∙ ahead_more ys y (each f xs)

pub each_none : {A B : Type 0} (f : A → Option B) (ys : List B) (x : A) (xs : List A) → f x ≡ None → ahead ys (each f (x ∷ xs)) ≡ None
each_none f ys x xs e = ap (λ o. ahead ys (on o (λ y. on (each f xs) (λ more. Some (y ∷ more))))) e

-- all items are read
pub each_all : {A B : Type 0} (f : A → Option B) (ys : List B) (xs rest : List A) → each f xs ≡ ahead ys (each f rest) → rest ≡ [] → each f xs ≡ Some ys
each_all f ys xs rest h e = h ∙ ap (λ l. ahead ys (each f l)) e ∙ ap Some (append-nil ys)

-- the items from a place on
pub from_place : {A : Type 0} (xs : List A) (i : ℕ) (x : A) → i < length xs → x ≡ get_or xs i x → drop i xs ≡ x ∷ drop (i + 1) xs
from_place xs i x h e = drop-cons xs i x h ∙ ap (λ y. y ∷ drop (suc i) xs) (sym e) ∙ ap (λ j. x ∷ drop j xs) (sym (add-one i))

-- what nothing is read of
pub nothing_on : {A B : Type 0} (f : Option A → Option B) → f None ≡ None → (e : Unread) (w : Option A) → Reads {A = A} (Err e) w → Reads {A = B} (Err e) (f w)
nothing_on f strict Nothing w h = ap f h ∙ strict
nothing_on f strict OutOfMemory w h = tt

-- the exit of a `?`
pub exit : {A : Type 0} (r : Result A Unread) (e : Unread) (w : Option A) → IsErrAnd r (λ x. x ≡ e) → Reads (Err e) w → Reads r w
exit r e w is h = let p = err_from_is_err_and r is in subst (λ r. Reads r w) (sym (p.1 ∙ ap Err p.2)) h

-- what shows nothing
pub shows_nothing : {A B : Type 0} (show : A → B) (e : Unread) (w : Option B) → Shows show (Err e) w → Reads {A = B} (Err e) w
shows_nothing show Nothing w h = h
shows_nothing show OutOfMemory w h = tt

pub reads_as : {A : Type 0} (r : Result A Unread) (w w' : Option A) → w ≡ w' → Reads r w' → Reads r w
reads_as r w w' e h = subst (Reads r) (sym e) h
