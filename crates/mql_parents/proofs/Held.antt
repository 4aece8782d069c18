-- Parents of structures noted one after another.
use Rattle.std.proofs.Common.{◌≡◌, ℕ, Bool, true, false, bytes_eq, List, [], ◌∷◌, ◌++◌, Option, Some, None, refl, sym, ap, ◌∙◌, if◌then◌else◌}
use Rattle.std.proofs.lemmas.Map.Text.{btree_map_updates_str}
use Rattle.std.specs.Option.{option_copied}
use Rattle.std.specs.Ordering.{nat_cmp}
use Rattle.std.specs.Cmp.Lexicographic.{slice_cmp}
use Rattle.std.specs.BTreeMap.{BTreeMap, get_by, is_at, UpdatesBy}
use Rattle.std.specs.Map.{lookup}
use Rattle.std.specs.Borrow.{Bor}
use Rattle.mql_names.specs.Scopes.{Name}
use Rattle.mql_parents.specs.Parents.{Derived, parent_among}
use Rattle.mql_parents.specs.Maps.{parent_at, Holds}

abbrev pub Map : Type 0
Map = BTreeMap (Bor (List ℕ)) (Bor (List ℕ))

abbrev pub named : Name → Name → Derived
named x p = record { name = x; parent = p }

parent_step : (b : Bool) (p : Name) (o q : Option Name)
    → (elim (if b then Some p else o) [ Some n ↦ Some n | None ↦ q ]) ≡ (if b then Some p else (elim o [ Some n ↦ Some n | None ↦ q ]))
parent_step true p o q = refl
parent_step false p o q = refl

parent_more : (ds : List Derived) (x p q : Name) → parent_among (ds ++ named x p ∷ []) q ≡ (if bytes_eq x q then Some p else parent_among ds q)
parent_more [] x p q = refl
parent_more (d ∷ ds) x p q =
    ap (λ (o : Option Name). elim o [ Some n ↦ Some n | None ↦ if bytes_eq d.name q then Some d.parent else None ]) (parent_more ds x p q)
    ∙ parent_step (bytes_eq x q) p (parent_among ds q) (if bytes_eq d.name q then Some d.parent else None)

copied : (b : Bool) (v : Bor Name) (o : Option (Bor Name)) → option_copied (if b then Some v else o) ≡ (if b then Some v.now else option_copied o)
copied true v o = refl
copied false v o = refl

pub parent_held : (m n : Map) (name : List ℕ) (v : Bor Name) (ds : List Derived)
    → UpdatesBy (λ x y. slice_cmp nat_cmp x.now y.now) (λ k. slice_cmp nat_cmp name k.now) m n (Some v)
    → Holds m ds → Holds n (ds ++ named name v.now ∷ [])
unfolding parent_at
parent_held m n name v ds h k = record {
  is = λ q.
      ap option_copied (btree_map_updates_str name m n (Some v) h q)
      ∙ copied (bytes_eq name q) v (get_by (λ k. slice_cmp nat_cmp q k.now) m)
      ∙ ap (λ (o : Option Name). if bytes_eq name q then Some v.now else o) (k.is q)
      ∙ sym (parent_more ds name v.now q);
}

pub nothing_held : (m : Map) → m.entries ≡ [] → Holds m []
unfolding parent_at
nothing_held m e = record { is = λ q. ap (λ es. option_copied (lookup (is_at (λ k. slice_cmp nat_cmp q k.now)) es)) e }

pub held_as : (m : Map) (ds es : List Derived) → ds ≡ es → Holds m ds → Holds m es
held_as m ds es e h = record { is = λ q. h.is q ∙ ap (λ xs. parent_among xs q) e }

pub same_parents : (m : Map) (ds : List Derived) → Holds m ds → parent_at m ≡ parent_among ds
same_parents m ds h = λ i q. h.is q i
