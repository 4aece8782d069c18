-- What is broken in the variables of declarations, one declaration after another.
use Rattle.std.proofs.Common.{◌≡◌, ◌<◌, ◌≤◌, ℕ, Bool, true, false, eqb, List, [], ◌∷◌, ◌++◌, Option, Some, None, refl, sym, ap, ◌∙◌, arith, append-nil, append_assoc, if◌then◌else◌, eqb-true}
use Rattle.std.specs.List.{flat_map}
use Rattle.std.proofs.lemmas.Bool.Decides.{nat_tests}
use Rattle.mql_names.specs.declared.fault.Broken.{Broken}
use Rattle.mql_names.specs.Faults.{is_before, sooner, told}
use Rattle.mql_names.proofs.Faults.{sooner_assoc, told_append}
use Rattle.mql_expressions.specs.Values.{below, below_or_all, innermost}
use Rattle.mql_check.specs.declared.owned.Owned.{Owned}
use Rattle.mql_check.specs.declared.owned.Gathering.{Gathering}
use Rattle.mql_check.specs.Variables.{joined, declarations, inner, together, gathered, with_more}

-- the plain form: what is broken at a node in all variables, for each of them
abbrev at_place : ℕ → List Owned → List Broken
at_place q [] = []
at_place q (o ∷ os) = (if eqb o.place.at q then o.broken else []) ++ at_place q os

abbrev by_place : List Owned → List Owned → List Broken
by_place all [] = []
by_place all (o ∷ os) = innermost o.place (at_place o.place.at all) ++ by_place all os

-- nodes in their order
pub data Ascends : ℕ → List Owned → Type 0 where
  last : (n : ℕ) → Ascends n []
  on : (n : ℕ) (o : Owned) (os : List Owned) → n ≤ o.place.at → Ascends o.place.at os → Ascends n (o ∷ os)

eqb_above : (m n : ℕ) → m < n → eqb n m ≡ false
eqb_above m n h = grind (arith, nat_tests)

eqb_same : (m n : ℕ) → m ≡ n → eqb n m ≡ true
eqb_same m n h = grind (arith, nat_tests)

at_place_above : (q n : ℕ) (os : List Owned) → q < n → Ascends n os → at_place q os ≡ []
at_place_above q n [] h s = refl
at_place_above q n (o ∷ os) h (on _ _ _ le s) =
    let k : q < o.place.at = omega (arith, h, le) in
    ap (λ b. (if b then o.broken else []) ++ at_place q os) (eqb_above q o.place.at k) ∙ at_place_above q o.place.at os k s

-- a node further down does not see those before
by_place_above : (x : Owned) (n : ℕ) (all os : List Owned) → x.place.at < n → Ascends n os → by_place (x ∷ all) os ≡ by_place all os
by_place_above x n all [] h s = refl
by_place_above x n all (o ∷ os) h (on _ _ _ le s) =
    let k : x.place.at < o.place.at = omega (arith, h, le) in
    let e : eqb x.place.at o.place.at ≡ false = grind (arith, nat_tests, k) in
    ap (λ b. innermost o.place ((if b then x.broken else []) ++ at_place o.place.at all) ++ by_place (x ∷ all) os) e
    ∙ ap (λ r. innermost o.place (at_place o.place.at all) ++ r) (by_place_above x o.place.at all os k s)

-- two variables of one node as one
abbrev two : Owned → Owned → Owned
two o x = record x { broken = o.broken ++ x.broken }

at_place_two : (o x : Owned) (q : ℕ) (os : List Owned) → x.place.at ≡ o.place.at → at_place q (o ∷ x ∷ os) ≡ at_place q (two o x ∷ os)
at_place_two o x q os e = ap (λ (n : ℕ). (if eqb n q then o.broken else []) ++ ((if eqb x.place.at q then x.broken else []) ++ at_place q os)) (sym e) ∙ each (eqb x.place.at q)
  where
    each : (b : Bool) → (if b then o.broken else []) ++ ((if b then x.broken else []) ++ at_place q os) ≡ (if b then o.broken ++ x.broken else []) ++ at_place q os
    each true = sym (append_assoc o.broken x.broken (at_place q os))
    each false = refl

by_place_two : (o x : Owned) (all os : List Owned) → x.place.at ≡ o.place.at → by_place (o ∷ x ∷ all) os ≡ by_place (two o x ∷ all) os
by_place_two o x all [] e = refl
by_place_two o x all (y ∷ os) e =
    ap (λ bs. innermost y.place bs ++ by_place (o ∷ x ∷ all) os) (at_place_two o x y.place.at all e)
    ∙ ap (λ r. innermost y.place (at_place y.place.at (two o x ∷ all)) ++ r) (by_place_two o x all os e)

-- what is told
sooner_same : (a : Option Broken) → sooner a a ≡ a
sooner_same None = refl
sooner_same (Some x) = either_way x (is_before x x)
  where
    either_way : (x : Broken) (b : Bool) → (if b then Some x else Some x) ≡ Some x
    either_way x true = refl
    either_way x false = refl

told_twice : (xs ys : List Broken) → told (xs ++ (xs ++ ys)) ≡ told (xs ++ ys)
told_twice xs ys =
    told_append xs (xs ++ ys)
    ∙ ap (sooner (told xs)) (told_append xs ys)
    ∙ sym (sooner_assoc (told xs) (told xs) (told ys))
    ∙ ap (λ a. sooner a (told ys)) (sooner_same (told xs))
    ∙ sym (told_append xs ys)

-- variables of one node are joined
joined_cases : (o x d : Owned) (ds : List Owned) (b : Bool) → eqb d.place.at o.place.at ≡ b → eqb x.place.at o.place.at ≡ true
    → joined o (if b then record d { broken = x.broken ++ d.broken } ∷ ds else x ∷ d ∷ ds)
    ≡ (if b then record d { broken = (o.broken ++ x.broken) ++ d.broken } ∷ ds else two o x ∷ d ∷ ds)
joined_cases o x d ds true e k =
    ap (λ (b : Bool). if b then record d { broken = o.broken ++ (x.broken ++ d.broken) } ∷ ds else o ∷ record d { broken = x.broken ++ d.broken } ∷ ds) e
    ∙ ap (λ bs. record d { broken = bs } ∷ ds) (sym (append_assoc o.broken x.broken d.broken))
joined_cases o x d ds false e k =
    ap (λ (b : Bool). if b then two o x ∷ d ∷ ds else o ∷ x ∷ d ∷ ds) k

joined_two : (o x : Owned) (ds : List Owned) → x.place.at ≡ o.place.at → joined o (joined x ds) ≡ joined (two o x) ds
joined_two o x [] e = ap (λ (b : Bool). if b then two o x ∷ [] else o ∷ x ∷ []) (eqb_same o.place.at x.place.at (sym e))
joined_two o x (d ∷ ds) e = joined_cases o x d ds (eqb d.place.at x.place.at) (ap (eqb d.place.at) (sym e)) (eqb_same o.place.at x.place.at (sym e))

-- variables of other nodes are not
other_cases : (o x d : Owned) (ds : List Owned) (b : Bool) → eqb d.place.at x.place.at ≡ b → eqb x.place.at o.place.at ≡ false
    → joined o (if b then record d { broken = x.broken ++ d.broken } ∷ ds else x ∷ d ∷ ds)
    ≡ o ∷ (if b then record d { broken = x.broken ++ d.broken } ∷ ds else x ∷ d ∷ ds)
other_cases o x d ds true e k =
    let y = record d { broken = x.broken ++ d.broken } in
    let f : eqb d.place.at o.place.at ≡ false = ap (λ n. eqb n o.place.at) (eqb-true d.place.at x.place.at e) ∙ k in
    ap (λ (b : Bool). if b then record d { broken = o.broken ++ (x.broken ++ d.broken) } ∷ ds else o ∷ y ∷ ds) f
other_cases o x d ds false e k =
    ap (λ (b : Bool). if b then two o x ∷ d ∷ ds else o ∷ x ∷ d ∷ ds) k

joined_other : (o x : Owned) (ds : List Owned) → eqb x.place.at o.place.at ≡ false → joined o (joined x ds) ≡ o ∷ joined x ds
joined_other o x [] e = ap (λ (b : Bool). if b then two o x ∷ [] else o ∷ x ∷ []) e
joined_other o x (d ∷ ds) e = other_cases o x d ds (eqb d.place.at x.place.at) refl e

-- one variable before others
alone : (o : Owned) (os : List Owned) → at_place o.place.at os ≡ [] → at_place o.place.at (o ∷ os) ≡ o.broken
alone o os e =
    ap (λ (b : Bool). (if b then o.broken else []) ++ at_place o.place.at os) (eqb_same o.place.at o.place.at refl)
    ∙ ap (λ bs. o.broken ++ bs) e
    ∙ append-nil o.broken

-- the claim of a list
abbrev Same : List Owned → Type 0
Same os = told (by_place os os) ≡ told (together os)

step : (o x : Owned) (xs : List Owned) (b : Bool) → eqb x.place.at o.place.at ≡ b → o.place.at ≤ x.place.at → Ascends x.place.at xs
    → Same (x ∷ xs) → Same (two o x ∷ xs) → Same (o ∷ x ∷ xs)
step o x xs true e le s one joint =
    let k : x.place.at ≡ o.place.at = eqb-true x.place.at o.place.at e in
    let j = innermost x.place (at_place x.place.at (two o x ∷ xs)) in
    let r = by_place (two o x ∷ xs) xs in
    let first : innermost o.place (at_place o.place.at (o ∷ x ∷ xs)) ≡ j =
    ap (λ n. below_or_all (below n (at_place n (o ∷ x ∷ xs))) (at_place n (o ∷ x ∷ xs))) (sym k) ∙ ap (innermost x.place) (at_place_two o x x.place.at xs k) in
    let second : innermost x.place (at_place x.place.at (o ∷ x ∷ xs)) ≡ j = ap (innermost x.place) (at_place_two o x x.place.at xs k) in
    ap (λ bs. told (bs ++ (innermost x.place (at_place x.place.at (o ∷ x ∷ xs)) ++ by_place (o ∷ x ∷ xs) xs))) first
    ∙ ap (λ bs. told (j ++ (bs ++ by_place (o ∷ x ∷ xs) xs))) second
    ∙ ap (λ bs. told (j ++ (j ++ bs))) (by_place_two o x xs xs k)
    ∙ told_twice j r
    ∙ joint
    ∙ ap (λ ds. told (flat_map inner ds)) (sym (joined_two o x (declarations xs) k))
step o x xs false e le s one joint =
    let k : o.place.at < x.place.at = grind (arith, nat_tests, e, le) in
    let up : Ascends x.place.at (x ∷ xs) = on x.place.at x xs (omega arith) s in
    ap (λ bs. told (innermost o.place bs ++ by_place (o ∷ x ∷ xs) (x ∷ xs))) (alone o (x ∷ xs) (at_place_above o.place.at x.place.at (x ∷ xs) k up))
    ∙ ap (λ bs. told (inner o ++ bs)) (by_place_above o x.place.at (x ∷ xs) (x ∷ xs) k up)
    ∙ told_append (inner o) (by_place (x ∷ xs) (x ∷ xs))
    ∙ ap (sooner (told (inner o))) one
    ∙ sym (told_append (inner o) (together (x ∷ xs)))
    ∙ ap (λ ds. told (flat_map inner ds)) (sym (joined_other o x (declarations xs) e))

from_first : (o : Owned) (os : List Owned) → Ascends o.place.at os → Same (o ∷ os)
from_first o [] s = ap (λ bs. told (innermost o.place bs ++ [])) (alone o [] refl)
from_first o (x ∷ xs) (on _ _ _ le s) = step o x xs (eqb x.place.at o.place.at) refl le s (from_first x xs s) (from_first (two o x) xs s)

-- where nodes stand in their order, the plain form tells the same
pub together_told : (n : ℕ) (os : List Owned) → Ascends n os → told (by_place os os) ≡ told (together os)
together_told n [] s = refl
together_told n (o ∷ os) (on _ _ _ le s) = from_first o os s

-- one variable more
more_cases : (g : Gathering) (x : Owned) (ds : List Owned) (b : Bool) → eqb x.place.at g.pending.place.at ≡ b
    → with_more (if b then record g { pending = two g.pending x } else record { told = g.told ++ inner g.pending; pending = x }) ds
    ≡ with_more g (joined x ds)
more_cases g x ds true e =
    ap (λ os. g.told ++ flat_map inner os) (sym (joined_two g.pending x ds (eqb-true x.place.at g.pending.place.at e)))
more_cases g x ds false e =
    append_assoc g.told (inner g.pending) (flat_map inner (joined x ds))
    ∙ ap (λ os. g.told ++ flat_map inner os) (sym (joined_other g.pending x ds e))

pub gathered_more : (g : Gathering) (x : Owned) (xs : List Owned)
    → with_more (gathered g x) (declarations xs) ≡ with_more g (declarations (x ∷ xs))
gathered_more g x xs = more_cases g x (declarations xs) (eqb x.place.at g.pending.place.at) refl
