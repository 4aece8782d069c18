-- What names of the program's own scope mean, one more after another.
use Rattle.std.proofs.Common.{◌≡◌, ℕ, Bool, true, false, bytes_eq, List, [], ◌∷◌, ◌++◌, map, Option, Some, None, Result, Ok, Err, IfOk, refl, sym, ap, subst, ◌∙◌, if◌then◌else◌}
use Rattle.std.specs.List.{flat_map}
use Rattle.std.proofs.lemmas.Map.Text.{btree_map_updates_str}
use Rattle.std.proofs.lemmas.Grind.{flat_map-append}
use Rattle.std.proofs.lemmas.List.{append-nil, append_assoc}
use Rattle.std.specs.Ordering.{nat_cmp}
use Rattle.std.specs.Cmp.Lexicographic.{slice_cmp}
use Rattle.std.specs.BTreeMap.{BTreeMap, is_at, UpdatesBy}
use Rattle.std.specs.Map.{lookup}
use Rattle.std.specs.Borrow.{Bor}
use Rattle.mql_syntax.specs.declared.declaration.Enumeration.{Enumeration}
use Rattle.mql_syntax.specs.declared.declaration.Syntax.{Syntax}
use Rattle.mql_names.specs.declared.fault.Broken.{Broken}
use Rattle.mql_names.specs.declared.types.Meaning.{Meaning}
use Rattle.mql_names.specs.declared.types.Meaning.TheVariants as meanings
use Rattle.mql_names.specs.Scopes.{Name}
use Rattle.mql_names.specs.Types.{Names}
use Rattle.mql_names.specs.Maps.{meaning, Means}
use Rattle.mql_names.specs.Meanings.{Meant, meant, enumerator_meant, enumeration_meanings, item_meanings}
use Rattle.mql_names.specs.Things.{things_of}
use Rattle.mql_names.specs.Rules.{told_of, first_broken}

abbrev Map : Type 0
Map = BTreeMap (Bor (List ℕ)) Meaning

meant_step : (b : Bool) (v : Meaning) (o p : Option Meaning)
    → (elim (if b then Some v else o) [ Some n ↦ Some n | None ↦ p ]) ≡ (if b then Some v else (elim o [ Some n ↦ Some n | None ↦ p ]))
meant_step true v o p = refl
meant_step false v o p = refl

meant_more : (ms : List Meant) (m : Meant) (q : Name) → meant (ms ++ m ∷ []) q ≡ (if bytes_eq m.name q then Some m.means else meant ms q)
meant_more [] m q = refl
meant_more (n ∷ ms) m q =
    ap (λ (o : Option Meaning). elim o [ Some k ↦ Some k | None ↦ if bytes_eq n.name q then Some n.means else None ]) (meant_more ms m q)
    ∙ meant_step (bytes_eq m.name q) m.means (meant ms q) (if bytes_eq n.name q then Some n.means else None)

pub meant_held : (m n : Map) (name : List ℕ) (means : Meaning) (ms : List Meant)
    → UpdatesBy (λ x y. slice_cmp nat_cmp x.now y.now) (λ k. slice_cmp nat_cmp name k.now) m n (Some means)
    → Means m ms → Means n (ms ++ (record { name = name; means = means }) ∷ [])
unfolding meaning
meant_held m n name means ms h k = record {
  is = λ q.
      btree_map_updates_str name m n (Some means) h q
      ∙ ap (λ (o : Option Meaning). if bytes_eq name q then Some means else o) (k.is q)
      ∙ sym (meant_more ms (record { name = name; means = means }) q);
}

pub nothing_means : (m : Map) → m.entries ≡ [] → Means m []
unfolding meaning
nothing_means m e = record { is = λ q. ap (λ es. lookup (is_at (λ k. slice_cmp nat_cmp q k.now)) es) e }

pub flat_more : {A B : Type 0} (g : A → List B) (xs : List A) (x : A) → flat_map g (xs ++ x ∷ []) ≡ flat_map g xs ++ g x
flat_more g xs x = flat_map-append g xs (x ∷ []) ∙ ap (λ ys. flat_map g xs ++ ys) (append-nil (g x))

pub enumeration_held : {E : Type 0} (m n : Map) (e : Enumeration) (r : Result Map E)
    → ((ms : List Meant) → Means m ms → Means n (ms ++ (record { name = e.name; means = meanings.Enumeration }) ∷ []))
    → IfOk r (λ o. (ms : List Meant) → Means n ms → Means o (ms ++ map enumerator_meant e.values))
    → IfOk r (λ o. (ms : List Meant) → Means m ms → Means o (ms ++ enumeration_meanings e))
enumeration_held m n e (Ok o) h k = λ ms w.
    subst (Means o) (append_assoc ms ((record { name = e.name; means = meanings.Enumeration }) ∷ []) (map enumerator_meant e.values))
    (k (ms ++ (record { name = e.name; means = meanings.Enumeration }) ∷ []) (h ms w))
enumeration_held m n e (Err x) h k = k

pub told_by_names : {E : Type 0} (m : Map) (s : Syntax) (r : Result (Option Broken) E) → Means m (flat_map item_meanings s.items)
    → IfOk r (λ b. b ≡ told_of (meaning m) (things_of (meaning m) s)) → IfOk r (λ b. b ≡ first_broken s)
unfolding first_broken
told_by_names m s r h k =
    subst (λ (names : Names). IfOk r (λ b. b ≡ told_of names (things_of names s))) (λ i q. h.is q i) k
