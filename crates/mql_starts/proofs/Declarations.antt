-- What variables of a declaration tell, one after another.
use Rattle.std.proofs.Common.{◌≡◌, ℕ, ◌+◌, List, [], ◌∷◌, ◌++◌, length, drop, get_or, ◌<◌, sym, ap, ◌∙◌, arith, add-zero, append_assoc, append-nil, length-append}
use Rattle.std.proofs.lemmas.List.{drop_more}
use Rattle.mql_syntax.specs.declared.declaration.Variable.{Variable}
use Rattle.mql_scope.specs.declared.context.Known.{Known}
use Rattle.mql_scope.specs.Contexts.{Context}
use Rattle.mql_statements.specs.declared.told.Told.{Told}
use Rattle.mql_statements.specs.Told.{nothing_told, then_told, behind_told}
use Rattle.mql_starts.specs.Declarations.{declares, declares_all}
use Rattle.mql_statements.specs.Told.{in_force}
use Rattle.mql_statements.proofs.ThenTold.{nothing_then, then_assoc}

-- places behind what is told
context_with : Context → ℕ → List Known → ℕ → Context
context_with c n ks s = record c { next = n; locals = ks; statics = s }

behind_nothing : (c : Context) → behind_told nothing_told c ≡ c
unfolding context_with
behind_nothing c =
    ap (λ x. context_with c x (c.locals ++ []) (c.statics + 0)) (add-zero c.next)
    ∙ ap (λ x. context_with c c.next x (c.statics + 0)) (append-nil c.locals)
    ∙ ap (context_with c c.next c.locals) (add-zero c.statics)

further : {A : Type 0} (n : ℕ) (xs ys : List A) → n + length xs + length ys ≡ n + length (xs ++ ys)
further n xs ys = omega (arith, length-append xs ys)

behind_both : (a b : Told) (c : Context) → behind_told b (behind_told a c) ≡ behind_told (then_told a b) c
unfolding context_with
behind_both a b c =
    ap (λ x. context_with c x ((c.locals ++ a.declared) ++ b.declared) (c.statics + length a.statics + length b.statics))
    (further c.next a.kept b.kept)
    ∙ ap (λ x. context_with c (c.next + length (a.kept ++ b.kept)) x (c.statics + length a.statics + length b.statics))
    (append_assoc c.locals a.declared b.declared)
    ∙ ap (context_with c (c.next + length (a.kept ++ b.kept)) (c.locals ++ (a.declared ++ b.declared)))
    (further c.statics a.statics b.statics)

-- variables before a number are told, and those from it on are left
pub all_begins : (c : Context) (vs : List Variable) → then_told nothing_told (declares_all (behind_told nothing_told c) vs) ≡ declares_all c vs
all_begins c vs = nothing_then (declares_all (behind_told nothing_told c) vs) ∙ ap (λ d. declares_all d vs) (behind_nothing c)

pub all_more : (c : Context) (locals known : List Known) (vs : List Variable) (i : ℕ) (v : Variable) (all t next : Told)
    → i < length vs → v ≡ get_or vs i v → known ≡ locals ++ all.declared
    → t ≡ declares (in_force (behind_told all c) known) v → next ≡ then_told all t
    → then_told next (declares_all (behind_told next (in_force c locals)) (drop (i + 1) vs))
    ≡ then_told all (declares_all (behind_told all (in_force c locals)) (drop i vs))
all_more c locals known vs i v all t next h k l m n =
    let d : Context = behind_told all (in_force c locals) in
    let rest : List Variable = drop (i + 1) vs in
    let told : t ≡ declares d v = m ∙ ap (λ ks. declares (in_force (behind_told all c) ks) v) l in
    ap (λ x. then_told x (declares_all (behind_told x (in_force c locals)) rest)) n
    ∙ sym (then_assoc all t (declares_all (behind_told (then_told all t) (in_force c locals)) rest))
    ∙ ap (then_told all) (
    ap (λ x. then_told t (declares_all x rest)) (sym (behind_both all t (in_force c locals)))
    ∙ ap (λ x. then_told x (declares_all (behind_told x d) rest)) told
    ∙ ap (declares_all d) (sym (drop_more vs i v h ∙ ap (λ y. y ∷ rest) (sym k))))
