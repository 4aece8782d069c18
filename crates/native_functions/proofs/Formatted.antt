-- Arguments of StringFormat: a string, and values behind it.
use Rattle.std.proofs.Common.{◌≡◌, ℕ, List, [], ◌∷◌, ◌++◌, Option, Some, None, Result, refl, sym, ap, ◌∙◌, append_assoc, subst}
use Rattle.mql_mean.specs.declared.value.Value.{Value}
use Rattle.mql_meaning.specs.declared.store.Store.{Store}
use Rattle.mql_meaning.specs.Changes.{Change, Out, Over, Stuck, after, for_each, give, the, then_some, ◌>>=◌}
use Rattle.mql_meaning.specs.Natives.{Argument, NativeDone, a_string, a_value, with_more}
use Rattle.store_cells.specs.declared.fault.Fault.{Fault}
use Rattle.native_arguments.specs.declared.argument.Argument as code
use Rattle.native_arguments.specs.declared.done.NativeDone as done
use Rattle.native_arguments.specs.Arguments.{all_shown, all_values, shown, string_in, value_in}
use Rattle.native_arguments.specs.Done.{Comes}
use Rattle.native_arguments.proofs.Agrees.{agree_string, agree_value}

-- values before others
abbrev pub before : List Value → Option (List Value) → Option (List Value)
before xs more = then_some more (λ ys. Some (xs ++ ys))

pub before_none : (more : Option (List Value)) → before [] more ≡ more
before_none None = refl
before_none (Some ys) = refl

pushed : (xs : List Value) (x : Value) (more : Option (List Value)) →
    before xs (then_some more (λ ys. Some (x ∷ ys))) ≡ before (xs ++ x ∷ []) more
pushed xs x None = refl
pushed xs x (Some ys) = ap Some (sym (append_assoc xs (x ∷ []) ys))

abbrev then_values : List Argument → Option Value → Option (List Value)
then_values xs o = then_some o (λ v. then_some (all_values xs) (λ vs. Some (v ∷ vs)))

pub before_one : (vs : List Value) (x : code.Argument) (xs : List code.Argument) (v : Value) →
    value_in (shown x) ≡ Some v →
    before vs (all_values (shown x ∷ all_shown xs)) ≡ before (vs ++ v ∷ []) (all_values (all_shown xs))
before_one vs x xs v e =
    ap (λ (o : Option Value). before vs (then_values (all_shown xs) o)) e ∙ pushed vs v (all_values (all_shown xs))

pub before_end : (vs : List Value) (x : code.Argument) (xs : List code.Argument) → value_in (shown x) ≡ None →
    before vs (all_values (shown x ∷ all_shown xs)) ≡ None
before_end vs x xs e = ap (λ (o : Option Value). before vs (then_values (all_shown xs) o)) e

-- all values, as the meaning reads them
then_all : (v : Value) (o : Option (List Value)) (s : Store) →
    after (the o s) (λ vs. give (v ∷ vs)) ≡ the (then_some o (λ vs. Some (v ∷ vs))) s
then_all v None s = refl
then_all v (Some vs) s = refl

first_then : (o : Option Value) (xs : List Argument) (s : Store) → for_each a_value xs s ≡ the (all_values xs) s →
    after (the o s) (λ v. for_each a_value xs >>= λ vs. give (v ∷ vs))
    ≡ the (then_some o (λ v. then_some (all_values xs) (λ vs. Some (v ∷ vs)))) s
first_then None xs s e = refl
first_then (Some v) xs s e =
    ap (λ (o : Out (List Value)). after o (λ vs. give (v ∷ vs))) e ∙ then_all v (all_values xs) s

pub values_by : (xs : List Argument) (s : Store) → for_each a_value xs s ≡ the (all_values xs) s
values_by [] s = refl
values_by (x ∷ xs) s =
    ap (λ (o : Out Value). after o (λ v. for_each a_value xs >>= λ vs. give (v ∷ vs))) (agree_value x s)
    ∙ first_then (value_in x) xs s (values_by xs s)

-- the first argument is no string
pub format_no_text : (x : Argument) (xs : List Argument) (f : List ℕ → List Value → Change NativeDone) (s : Store) →
    string_in x ≡ None → with_more a_string f (x ∷ xs) s ≡ Over Stuck s
format_no_text x xs f s e =
    ap (λ (o : Out (List ℕ)). after o (λ u. for_each a_value xs >>= f u))
    (agree_string x s ∙ ap (λ (o : Option (List ℕ)). the o s) e)

with_text : (x : Argument) (xs : List Argument) (f : List ℕ → List Value → Change NativeDone) (u : List ℕ)
    (o : Option (List Value)) (s : Store) → string_in x ≡ Some u → all_values xs ≡ o →
    with_more a_string f (x ∷ xs) s ≡ after (the o s) (f u)
with_text x xs f u o s e h =
    ap (λ (p : Out (List ℕ)). after p (λ u. for_each a_value xs >>= f u))
    (agree_string x s ∙ ap (λ (p : Option (List ℕ)). the p s) e)
    ∙ ap (λ (p : Out (List Value)). after p (f u)) (values_by xs s ∙ ap (λ (p : Option (List Value)). the p s) h)

pub format_no_values : (x : Argument) (xs : List Argument) (f : List ℕ → List Value → Change NativeDone)
    (u : List ℕ) (s : Store) → string_in x ≡ Some u → all_values xs ≡ None →
    with_more a_string f (x ∷ xs) s ≡ Over Stuck s
format_no_values x xs f u s e h = with_text x xs f u None s e h

pub format_goes : (x : Argument) (xs : List Argument) (f : List ℕ → List Value → Change NativeDone) (u : List ℕ)
    (vs : List Value) (r : Result done.NativeDone Fault) (s : Store) → string_in x ≡ Some u →
    all_values xs ≡ Some vs → Comes (f u vs s) r s → Comes (with_more a_string f (x ∷ xs) s) r s
format_goes x xs f u vs r s e h g =
    subst (λ (o : Out NativeDone). Comes o r s) (sym (with_text x xs f u (Some vs) s e h)) g

-- the same of arguments as the code has them
pub nothing_given : (ys : List code.Argument) (f : List ℕ → List Value → Change NativeDone) (s : Store) →
    ys ≡ [] → with_more a_string f (all_shown ys) s ≡ Over Stuck s
nothing_given ys f s e = ap (λ (zs : List code.Argument). with_more a_string f (all_shown zs) s) e

pub no_text : (ys xs : List code.Argument) (x : code.Argument) (f : List ℕ → List Value → Change NativeDone)
    (s : Store) → ys ≡ x ∷ xs → string_in (shown x) ≡ None → with_more a_string f (all_shown ys) s ≡ Over Stuck s
no_text ys xs x f s e h =
    ap (λ (zs : List code.Argument). with_more a_string f (all_shown zs) s) e
    ∙ format_no_text (shown x) (all_shown xs) f s h

pub no_values : (ys xs : List code.Argument) (x : code.Argument) (f : List ℕ → List Value → Change NativeDone)
    (u : List ℕ) (s : Store) → ys ≡ x ∷ xs → string_in (shown x) ≡ Some u → all_values (all_shown xs) ≡ None →
    with_more a_string f (all_shown ys) s ≡ Over Stuck s
no_values ys xs x f u s e h g =
    ap (λ (zs : List code.Argument). with_more a_string f (all_shown zs) s) e
    ∙ format_no_values (shown x) (all_shown xs) f u s h g

pub all_given : (ys xs : List code.Argument) (x : code.Argument) (f : List ℕ → List Value → Change NativeDone)
    (u : List ℕ) (vs : List Value) (r : Result done.NativeDone Fault) (s : Store) → ys ≡ x ∷ xs →
    string_in (shown x) ≡ Some u → all_values (all_shown xs) ≡ Some vs → Comes (f u vs s) r s →
    Comes (with_more a_string f (all_shown ys) s) r s
all_given ys xs x f u vs r s e h g k =
    subst (λ (zs : List code.Argument). Comes (with_more a_string f (all_shown zs) s) r s) (sym e)
    (format_goes (shown x) (all_shown xs) f u vs r s h g k)
