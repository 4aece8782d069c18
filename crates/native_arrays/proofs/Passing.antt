-- Changes of several parts.
use Rattle.std.proofs.Common.{◌≡◌, ℕ, ◌+◌, ◌<◌, ◌≤◌, List, [], ◌∷◌, ◌++◌, length, get_or, drop, Result, Ok, Err, refl, sym, ap, ◌∙◌, append_assoc, drop_of_length-le, subst}
use Rattle.std.proofs.lemmas.List.{drop_more}
use Rattle.mql_mean.specs.declared.value.Value.{Value}
use Rattle.mql_meaning.specs.declared.cell.Cell.{Cell}
use Rattle.mql_meaning.specs.declared.store.Store.{Store}
use Rattle.mql_meaning.specs.Changes.{Change, Out, Done, Over, after, give, for_each, ◌>>=◌}
use Rattle.mql_meaning.specs.Cells.{told, put}
use Rattle.mql_meaning.specs.ArrayFunctions.{copied, put_number, put_or_number}
use Rattle.store_cells.specs.Changes.{Leads}
use Rattle.store_cells.specs.declared.fault.Fault.{Fault}
use Rattle.store_cells.specs.declared.fault.Fault.TheVariants as fault
use Rattle.native_arrays.specs.Runs.{ahead, one_copied}

-- an end leaves out what follows
pub fails : {A B : Type 0} (out : Out A) (f : A → Change B) (e : Fault) (s : Store) → Leads {A = A} out (Err e) s →
    Leads {A = B} (after out f) (Err e) s
fails out f (fault.End e) s h = ap (λ o. after o f) h
fails out f fault.OutOfMemory s h = tt

pub ahead_nil : (out : Out (List Cell)) → out ≡ ahead [] out
ahead_nil (Done ds s) = refl
ahead_nil (Over e s) = refl

pushed : (new : List Cell) (d : Cell) (out : Out (List Cell)) →
    ahead new (after out (λ ds. give (d ∷ ds))) ≡ ahead (new ++ d ∷ []) out
pushed new d (Done ds s) = ap (λ xs. Done xs s) (sym (append_assoc new (d ∷ []) ds))
pushed new d (Over e s) = refl

-- the first of those that are left
opened : (cs : List Cell) (i : ℕ) (c : Cell) → i < length cs → c ≡ get_or cs i c → drop i cs ≡ c ∷ drop (i + 1) cs
opened cs i c h e = drop_more cs i c h ∙ ap (λ (d : Cell). d ∷ drop (i + 1) cs) (sym e)

-- elements that get a value, one after another
pub each_done : (f : Cell → Change Cell) (cs : List Cell) (i : ℕ) (c d : Cell) (new : List Cell) (s : Store)
    (all : Out (List Cell)) → i < length cs → c ≡ get_or cs i c → f c s ≡ Done d s →
    all ≡ ahead new (for_each f (drop i cs) s) → all ≡ ahead (new ++ d ∷ []) (for_each f (drop (i + 1) cs) s)
each_done f cs i c d new s all h e g is =
    is ∙ ap (λ (ds : List Cell). ahead new (for_each f ds s)) (opened cs i c h e)
    ∙ ap (λ (o : Out Cell). ahead new (after o (λ b. for_each f (drop (i + 1) cs) >>= λ bs. give (b ∷ bs)))) g
    ∙ pushed new d (for_each f (drop (i + 1) cs) s)

pub each_fails : (f : Cell → Change Cell) (cs : List Cell) (i : ℕ) (c : Cell) (new : List Cell) (s : Store)
    (all : Out (List Cell)) (why : Fault) → i < length cs → c ≡ get_or cs i c → Leads {A = Cell} (f c s) (Err why) s →
    all ≡ ahead new (for_each f (drop i cs) s) → Leads {A = List Cell} all (Err why) s
each_fails f cs i c new s all (fault.End e) h g fails is =
    is ∙ ap (λ (ds : List Cell). ahead new (for_each f ds s)) (opened cs i c h g)
    ∙ ap (λ (o : Out Cell). ahead new (after o (λ b. for_each f (drop (i + 1) cs) >>= λ bs. give (b ∷ bs)))) fails
each_fails f cs i c new s all fault.OutOfMemory h g fails is = tt

pub each_ends : (f : Cell → Change Cell) (cs : List Cell) (i : ℕ) (new : List Cell) (s : Store)
    (all : Out (List Cell)) → length cs ≤ i → all ≡ ahead new (for_each f (drop i cs) s) → all ≡ Done new s
each_ends f cs i new s all h is =
    is ∙ ap (λ (ds : List Cell). ahead new (for_each f ds s)) (drop_of_length-le cs h)
    ∙ ap (λ xs. Done xs s) (append_nil new)
  where
    append_nil : (xs : List Cell) → xs ++ [] ≡ xs
    append_nil [] = refl
    append_nil (x ∷ xs) = ap (λ ys. x ∷ ys) (append_nil xs)

-- elements that get the values of others
copied_none : (cs : List Cell) (s : Store) → copied cs [] s ≡ Done cs s
copied_none [] s = refl
copied_none (c ∷ cs) s = refl

abbrev and_then : List Cell → List Cell → Cell → Change (List Cell)
and_then cs from d = copied cs from >>= λ ds. give (d ∷ ds)

turn : (c : Cell) (cs from : List Cell) (s : Store) →
    copied (c ∷ cs) from s ≡ after (one_copied c from s) (and_then cs (drop 1 from))
turn c cs [] s = ap (λ (o : Out (List Cell)). after o (λ ds. give (c ∷ ds))) (sym (copied_none cs s))
turn c cs (f ∷ from) s = refl

pub copied_done : (cs from rest : List Cell) (i : ℕ) (c d : Cell) (new : List Cell) (s : Store)
    (all : Out (List Cell)) → i < length cs → c ≡ get_or cs i c → one_copied c rest s ≡ Done d s →
    all ≡ ahead new (copied (drop i cs) rest s) → all ≡ ahead (new ++ d ∷ []) (copied (drop (i + 1) cs) (drop 1 rest) s)
copied_done cs from rest i c d new s all h e g is =
    is ∙ ap (λ (ds : List Cell). ahead new (copied ds rest s)) (opened cs i c h e)
    ∙ ap (ahead new) (turn c (drop (i + 1) cs) rest s)
    ∙ ap (λ (o : Out Cell). ahead new (after o (and_then (drop (i + 1) cs) (drop 1 rest)))) g
    ∙ pushed new d (copied (drop (i + 1) cs) (drop 1 rest) s)

pub copied_fails : (cs rest : List Cell) (i : ℕ) (c : Cell) (new : List Cell) (s : Store)
    (all : Out (List Cell)) (why : Fault) → i < length cs → c ≡ get_or cs i c →
    Leads {A = Cell} (one_copied c rest s) (Err why) s → all ≡ ahead new (copied (drop i cs) rest s) →
    Leads {A = List Cell} all (Err why) s
copied_fails cs rest i c new s all (fault.End e) h g fails is =
    is ∙ ap (λ (ds : List Cell). ahead new (copied ds rest s)) (opened cs i c h g)
    ∙ ap (ahead new) (turn c (drop (i + 1) cs) rest s)
    ∙ ap (λ (o : Out Cell). ahead new (after o (and_then (drop (i + 1) cs) (drop 1 rest)))) fails
copied_fails cs rest i c new s all fault.OutOfMemory h g fails is = tt

pub copied_ends : (cs rest : List Cell) (i : ℕ) (new : List Cell) (s : Store)
    (all : Out (List Cell)) → length cs ≤ i → all ≡ ahead new (copied (drop i cs) rest s) → all ≡ Done new s
copied_ends cs rest i new s all h is =
    is ∙ ap (λ (ds : List Cell). ahead new (copied ds rest s)) (drop_of_length-le cs h)
    ∙ ap (λ xs. Done xs s) (append_nil new)
  where
    append_nil : (xs : List Cell) → xs ++ [] ≡ xs
    append_nil [] = refl
    append_nil (x ∷ xs) = ap (λ ys. x ∷ ys) (append_nil xs)
