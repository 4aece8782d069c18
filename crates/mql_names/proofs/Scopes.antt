-- Names noted one after another.
use Rattle.std.proofs.Common.{◌≡◌, ℕ, Bool, true, false, cond, bytes_eq, ◌||◌, List, [], ◌∷◌, ◌++◌, Option, Some, None, unwrap_or, refl, sym, ap, ◌∙◌}
use Rattle.std.proofs.lemmas.Map.Text.{btree_map_updates_str}
use Rattle.std.proofs.lemmas.List.{append-nil, append_assoc}
use Rattle.std.specs.Ordering.{nat_cmp}
use Rattle.std.specs.Cmp.Lexicographic.{slice_cmp}
use Rattle.std.specs.BTreeMap.{BTreeMap, get_by, is_at, UpdatesBy}
use Rattle.std.specs.Map.{lookup}
use Rattle.std.specs.Borrow.{Bor}
use Rattle.mql_names.specs.declared.fault.Broken.{Broken}
use Rattle.mql_names.specs.declared.scope.Named.{Named}
use Rattle.mql_names.specs.declared.scope.Taken.{Taken}
use Rattle.mql_names.specs.Faults.{break_if, told, sooner}
use Rattle.mql_names.specs.Scopes.{Name, is_among, all_names, plain_names, forms, is_taken, repeated}
use Rattle.mql_names.specs.Maps.{has, Holds}
use Rattle.mql_names.proofs.Faults.{told_append}

or_false : (b : Bool) (o : Option Bool) → unwrap_or (cond b (Some true) o) false ≡ (b || unwrap_or o false)
or_false true o = refl
or_false false o = refl

pub noted : (m n : BTreeMap (Bor (List ℕ)) Bool) (name : List ℕ) → UpdatesBy (λ x y. slice_cmp nat_cmp x.now y.now) (λ k. slice_cmp nat_cmp name k.now) m n (Some true) → (q : List ℕ) → has n q ≡ (bytes_eq name q || has m q)
unfolding has
noted m n name h q =
    ap (λ (o : Option Bool). unwrap_or o false) (btree_map_updates_str name m n (Some true) h q)
    ∙ or_false (bytes_eq name q) (get_by (λ k. slice_cmp nat_cmp q k.now) m)

pub none_held : (m : BTreeMap (Bor (List ℕ)) Bool) → m.entries ≡ [] → (q : List ℕ) → has m q ≡ false
unfolding has
none_held m e q = ap (λ es. unwrap_or (lookup (is_at (λ k. slice_cmp nat_cmp q k.now)) es) false) e

or_assoc : (a b c : Bool) → (a || (b || c)) ≡ (b || (a || c))
or_assoc true true c = refl
or_assoc true false c = refl
or_assoc false b c = refl

or_left : (a b : Bool) → (a || (b || false)) ≡ (b || (a || false))
or_left a b = or_assoc a b false

among_more : (q y : Name) (xs : List Name) → is_among q (xs ++ y ∷ []) ≡ (bytes_eq y q || is_among q xs)
among_more q y [] = refl
among_more q y (x ∷ xs) = ap (λ (b : Bool). bytes_eq x q || b) (among_more q y xs) ∙ or_assoc (bytes_eq x q) (bytes_eq y q) (is_among q xs)

all_more : (ns : List Named) (n : Named) → all_names (ns ++ n ∷ []) ≡ all_names ns ++ n.name ∷ []
all_more [] n = refl
all_more (m ∷ ns) n = ap (λ xs. m.name ∷ xs) (all_more ns n)

plain_step : (o : Option (List ℕ)) (x : Name) (xs ys zs : List Name) → xs ≡ ys ++ zs
    → (elim o [ None ↦ x ∷ xs | Some f ↦ xs ]) ≡ (elim o [ None ↦ x ∷ ys | Some f ↦ ys ]) ++ zs
plain_step None x xs ys zs e = ap (λ us. x ∷ us) e
plain_step (Some f) x xs ys zs e = e

plain_more : (ns : List Named) (n : Named) → plain_names (ns ++ n ∷ []) ≡ plain_names ns ++ plain_names (n ∷ [])
plain_more [] n = refl
plain_more (m ∷ ns) n = plain_step m.form m.name _ _ _ (plain_more ns n)

form_step : (o : Option (List ℕ)) (xs ys zs : List Name) → xs ≡ ys ++ zs
    → (elim o [ None ↦ xs | Some f ↦ f ∷ xs ]) ≡ (elim o [ None ↦ ys | Some f ↦ f ∷ ys ]) ++ zs
form_step None xs ys zs e = e
form_step (Some f) xs ys zs e = ap (λ us. f ∷ us) e

forms_more : (ns : List Named) (n : Named) → forms (ns ++ n ∷ []) ≡ forms ns ++ forms (n ∷ [])
forms_more [] n = refl
forms_more (m ∷ ns) n = form_step m.form _ _ _ (forms_more ns n)

among_nil : (q : Name) (xs : List Name) → is_among q (xs ++ []) ≡ is_among q xs
among_nil q xs = ap (is_among q) (append-nil xs)

-- one more name that is no function's
pub plain_held : (t : Taken) (n : Named) (all plain : BTreeMap (Bor (List ℕ)) Bool) (before : List Named) → n.form ≡ None
    → ((q : List ℕ) → has all q ≡ (bytes_eq n.name q || has t.all q)) → ((q : List ℕ) → has plain q ≡ (bytes_eq n.name q || has t.plain q))
    → Holds t before → Holds (record { all = all; plain = plain; forms = t.forms }) (before ++ n ∷ [])
plain_held t n all plain before e a p h = record {
  in_all = λ q. a q ∙ ap (λ (b : Bool). bytes_eq n.name q || b) (h.in_all q) ∙ sym (ap (is_among q) (all_more before n) ∙ among_more q n.name (all_names before));
  in_plain = λ q. p q ∙ ap (λ (b : Bool). bytes_eq n.name q || b) (h.in_plain q)
      ∙ sym (ap (is_among q) (plain_more before n ∙ ap (λ (o : Option (List ℕ)). plain_names before ++ (elim o [ None ↦ n.name ∷ [] | Some f ↦ [] ])) e) ∙ among_more q n.name (plain_names before));
  in_forms = λ q. h.in_forms q
      ∙ sym (ap (is_among q) (forms_more before n ∙ ap (λ (o : Option (List ℕ)). forms before ++ (elim o [ None ↦ [] | Some f ↦ f ∷ [] ])) e) ∙ among_nil q (forms before));
}

-- one more function
pub form_held : (t : Taken) (n : Named) (f : List ℕ) (all fs : BTreeMap (Bor (List ℕ)) Bool) (before : List Named) → n.form ≡ Some f
    → ((q : List ℕ) → has all q ≡ (bytes_eq n.name q || has t.all q)) → ((q : List ℕ) → has fs q ≡ (bytes_eq f q || has t.forms q))
    → Holds t before → Holds (record { all = all; plain = t.plain; forms = fs }) (before ++ n ∷ [])
form_held t n f all fs before e a p h = record {
  in_all = λ q. a q ∙ ap (λ (b : Bool). bytes_eq n.name q || b) (h.in_all q) ∙ sym (ap (is_among q) (all_more before n) ∙ among_more q n.name (all_names before));
  in_plain = λ q. h.in_plain q
      ∙ sym (ap (is_among q) (plain_more before n ∙ ap (λ (o : Option (List ℕ)). plain_names before ++ (elim o [ None ↦ n.name ∷ [] | Some g ↦ [] ])) e) ∙ among_nil q (plain_names before));
  in_forms = λ q. p q ∙ ap (λ (b : Bool). bytes_eq f q || b) (h.in_forms q)
      ∙ sym (ap (is_among q) (forms_more before n ∙ ap (λ (o : Option (List ℕ)). forms before ++ (elim o [ None ↦ [] | Some g ↦ g ∷ [] ])) e) ∙ among_more q f (forms before));
}

pub plain_taken : (t : Taken) (n : Named) (r : Bool) → n.form ≡ None → r ≡ has t.all n.name → (before : List Named) → Holds t before → r ≡ is_taken before n
plain_taken t n r e h before k =
    h ∙ k.in_all n.name
    ∙ sym (ap (λ (o : Option (List ℕ)). elim o [ None ↦ is_among n.name (all_names before) | Some f ↦ is_among n.name (plain_names before) || is_among f (forms before) ]) e)

pub form_taken : (t : Taken) (n : Named) (f : List ℕ) (r : Bool) → n.form ≡ Some f → r ≡ (has t.plain n.name || has t.forms f) → (before : List Named) → Holds t before → r ≡ is_taken before n
form_taken t n f r e h before k =
    h ∙ ap (λ (b : Bool). b || has t.forms f) (k.in_plain n.name) ∙ ap (λ (b : Bool). is_among n.name (plain_names before) || b) (k.in_forms f)
    ∙ sym (ap (λ (o : Option (List ℕ)). elim o [ None ↦ is_among n.name (all_names before) | Some g ↦ is_among n.name (plain_names before) || is_among g (forms before) ]) e)

pub nothing_held : (all plain fs : BTreeMap (Bor (List ℕ)) Bool) → all.entries ≡ [] → plain.entries ≡ [] → fs.entries ≡ [] → Holds (record { all = all; plain = plain; forms = fs }) []
nothing_held all plain fs a p f = record { in_all = none_held all a; in_plain = none_held plain p; in_forms = none_held fs f }

pub repeated_more : (before ns : List Named) (n : Named) → repeated before (ns ++ n ∷ []) ≡ repeated before ns ++ break_if (is_taken (before ++ ns) n) 1 n.place
repeated_more before [] n =
    append-nil (break_if (is_taken before n) 1 n.place) ∙ ap (λ xs. break_if (is_taken xs n) 1 n.place) (sym (append-nil before))
repeated_more before (m ∷ ns) n =
    ap (λ xs. break_if (is_taken before m) 1 m.place ++ xs) (repeated_more (before ++ m ∷ []) ns n)
    ∙ sym (append_assoc (break_if (is_taken before m) 1 m.place) (repeated (before ++ m ∷ []) ns) _)
    ∙ ap (λ xs. break_if (is_taken before m) 1 m.place ++ repeated (before ++ m ∷ []) ns ++ break_if (is_taken xs n) 1 n.place) (append_assoc before (m ∷ []) ns)

pub told_more : (ns : List Named) (n : Named) (first : Option Broken) (taken : Bool) → first ≡ told (repeated [] ns) → taken ≡ is_taken ns n
    → sooner first (told (break_if taken 1 n.place)) ≡ told (repeated [] (ns ++ n ∷ []))
told_more ns n first taken h k =
    ap (λ o. sooner o (told (break_if taken 1 n.place))) h
    ∙ ap (λ (b : Bool). sooner (told (repeated [] ns)) (told (break_if b 1 n.place))) k
    ∙ sym (told_append (repeated [] ns) (break_if (is_taken ns n) 1 n.place))
    ∙ sym (ap told (repeated_more [] ns n))
