-- One step of a loop over a list, as the loop has it: behind the first item.
use Rattle.std.proofs.Common.{◌≡◌, ℕ, suc, ◌+◌, ◌-◌, ◌≤◌, Bool, List, [], ◌∷◌, length, take, drop, get_or, Option, Some, Result, IfOk, refl, ap, subst, ◌∙◌, arith}
use Rattle.std.proofs.Math.Seq.{take-length}
use Rattle.std.specs.Borrow.{Bor}
use Rattle.mql_meaning.specs.declared.tree.Checked.{Checked}
use Rattle.mql_syntax.specs.declared.declaration.Function.{Function}
use Rattle.mql_syntax.specs.declared.declaration.Item.{Item}
use Rattle.mql_names.specs.declared.fault.Broken.{Broken}
use Rattle.mql_names.specs.Faults.{sooner, told, break_if}
use Rattle.mql_names.proofs.Faults.{sooner_assoc}
use Rattle.mql_scope.specs.Contexts.{Program}
use Rattle.mql_program.specs.Programs.{Given}
use Rattle.mql_program.specs.Lists.{all_lent}
use Rattle.mql_check.specs.declared.owned.Owned.{Owned}
use Rattle.mql_check.specs.declared.owned.Gathering.{Gathering}
use Rattle.mql_check.specs.declared.walk.Walked.{Walked}
use Rattle.mql_check.specs.Variables.{declarations, gathered, with_more}
use Rattle.mql_check.specs.Programs.{walked, judged_of, check_items, is_used, unmet_from}
use Rattle.mql_check.proofs.Declarations.{gathered_more}
use Rattle.mql_check.proofs.Walks.{unmet_more}

rest_is : {A : Type 0} (n : ℕ) (ts : List A) → n ≡ length ts → take (suc n - 1) ts ≡ ts
rest_is n ts e = ap (λ (k : ℕ). take k ts) (less_one n) ∙ ap (λ (k : ℕ). take k ts) e ∙ take-length ts
  where
    less_one : (n : ℕ) → suc n - 1 ≡ n
    less_one n = omega arith

none_long : 1 ≤ 0 → ⊥
none_long h = grind arith

pub told_on : (all first new : Option Broken) (d : Broken) (rest : List Broken)
    → sooner first (told rest) ≡ all → 1 ≤ length rest → new ≡ sooner first (Some (get_or rest 0 d))
    → sooner new (told (take (length rest - 1) (drop 1 rest))) ≡ all
told_on all first new d [] here long e = absurd (none_long long)
told_on all first new d (y ∷ ys) here long e =
    let left : take (length (y ∷ ys) - 1) ys ≡ ys = rest_is (length ys) ys refl in
    let f : new ≡ sooner first (Some y) = e in
    ap (λ (bs : List Broken). sooner new (told bs)) left
    ∙ ap (λ o. sooner o (told ys)) f
    ∙ sooner_assoc first (Some y) (told ys)
    ∙ here

pub together_on : (all : List Broken) (g new : Gathering) (x : Owned) (rest : List Owned)
    → with_more g (declarations rest) ≡ all → 1 ≤ length rest → x ≡ get_or rest 0 x → new ≡ gathered g x
    → with_more new (declarations (take (length rest - 1) (drop 1 rest))) ≡ all
together_on all g new x [] here long is e = absurd (none_long long)
together_on all g new x (y ∷ ys) here long is e =
    let left : take (length (y ∷ ys) - 1) ys ≡ ys = rest_is (length ys) ys refl in
    let same : x ≡ y = is in
    ap (λ (os : List Owned). with_more new (declarations os)) left
    ∙ ap (λ h. with_more h (declarations ys)) (e ∙ ap (gathered g) same)
    ∙ gathered_more g y ys
    ∙ here

pub unmet_on : (all before one after : Option Broken) (used : List ℕ) (n m : ℕ) (x : Bor Function)
    (rest : List (Bor Function)) (b : Bool)
    → sooner before (told (unmet_from used n (all_lent rest))) ≡ all → 1 ≤ length rest → x ≡ get_or rest 0 x
    → b ≡ is_used used n x.now → one ≡ told (break_if b 9 x.now.place) → after ≡ sooner before one → m ≡ n + 1
    → sooner after (told (unmet_from used m (all_lent (take (length rest - 1) (drop 1 rest))))) ≡ all
unmet_on all before one after used n m x [] b here long is e f g h = absurd (none_long long)
unmet_on all before one after used n m x (y ∷ ys) b here long is e f g h =
    let left : take (length (y ∷ ys) - 1) ys ≡ ys = rest_is (length ys) ys refl in
    let same : x ≡ y = is in
    let one_is : one ≡ told (break_if (is_used used n y.now) 9 y.now.place) =
    f ∙ ap (λ (c : Bool). told (break_if c 9 x.now.place)) e
    ∙ ap (λ (z : Bor Function). told (break_if (is_used used n z.now) 9 z.now.place)) same in
    ap (λ (fs : List (Bor Function)). sooner after (told (unmet_from used m (all_lent fs)))) left
    ∙ ap (λ o. sooner o (told (unmet_from used m (all_lent ys)))) g
    ∙ ap (λ k. sooner (sooner before one) (told (unmet_from used k (all_lent ys)))) h
    ∙ unmet_more used n y.now (all_lent ys) before one one_is
    ∙ here

-- what is judged of a program that is what its items make it
pub judged_from : {E : Type 0} (s : Given) (p q : Program) (items : List Item) (w : Walked)
    (r : Result (Result Checked Broken) E)
    → p ≡ q → w ≡ walked p items → IfOk r (λ x. x ≡ judged_of s p items w)
    → IfOk r (λ x. x ≡ check_items s q items)
judged_from s p q items w r e f h =
    subst (λ (v : Program). IfOk r (λ x. x ≡ judged_of s v items (walked v items))) e
    (subst (λ (u : Walked). IfOk r (λ x. x ≡ judged_of s p items u)) f h)
