-- Values of members noted one after another.
use Rattle.std.proofs.Common.{◌≡◌, ℕ, ℤ, pos, Bool, true, false, bytes_eq, ◌+◌, ◌<◌, length, drop, get_or, List, [], ◌∷◌, ◌++◌, Option, Some, None, refl, sym, ap, ◌∙◌, if◌then◌else◌}
use Rattle.std.proofs.lemmas.Map.Text.{btree_map_updates_str}
use Rattle.std.proofs.lemmas.List.{append-nil, append_assoc, drop_more}
use Rattle.std.specs.Ordering.{nat_cmp}
use Rattle.std.specs.Cmp.Lexicographic.{slice_cmp}
use Rattle.std.specs.BTreeMap.{BTreeMap, get_by, is_at, UpdatesBy}
use Rattle.std.specs.Map.{lookup}
use Rattle.std.specs.Borrow.{Bor}
use Rattle.mql_syntax.specs.declared.kind.Place.{Place}
use Rattle.mql_syntax.specs.declared.declaration.Enumerator.{Enumerator}
use Rattle.mql_syntax.specs.declared.declaration.Enumeration.{Enumeration}
use Rattle.mql_syntax.specs.declared.declaration.Item.{Item}
use Rattle.mql_syntax.specs.declared.declaration.Item.TheVariants as items
use Rattle.mql_names.specs.Scopes.{Name}
use Rattle.mql_names.specs.Types.{Names}
use Rattle.mql_sizes.specs.declared.member.EnumMember.{EnumMember}
use Rattle.mql_sizes.specs.declared.member.EnumMembers.{EnumMembers}
use Rattle.mql_sizes.specs.declared.member.MemberValue.{MemberValue}
use Rattle.mql_sizes.specs.Members.{Values, value_among, value_of, member_of, members_of, one_more, enumeration_of, enumerations_of, all_members}
use Rattle.mql_sizes.specs.Maps.{number_of, value_at, Holds}

abbrev Map : Type 0
Map = BTreeMap (Bor (List ℕ)) MemberValue

abbrev pub valued : Name → Option ℤ → EnumMember
valued x v = record { name = x; value = v }

abbrev pub built : Place → Name → List EnumMember → EnumMembers
built p x ms = record { place = p; name = x; members = ms }

value_step : (b : Bool) (v : ℤ) (o p : Option ℤ)
    → (elim (if b then Some v else o) [ Some n ↦ Some n | None ↦ p ]) ≡ (if b then Some v else (elim o [ Some n ↦ Some n | None ↦ p ]))
value_step true v o p = refl
value_step false v o p = refl

some_more : (ms : List EnumMember) (x : Name) (v : ℤ) (q : Name) → value_among (ms ++ valued x (Some v) ∷ []) q ≡ (if bytes_eq x q then Some v else value_among ms q)
some_more [] x v q = refl
some_more (n ∷ ms) x v q =
    ap (λ (o : Option ℤ). elim o [ Some k ↦ Some k | None ↦ if bytes_eq n.name q then n.value else None ]) (some_more ms x v q)
    ∙ value_step (bytes_eq x q) v (value_among ms q) (if bytes_eq n.name q then n.value else None)

no_value : (b : Bool) → ◌≡◌ {A = Option ℤ} (if b then None else None) None
no_value true = refl
no_value false = refl

none_more : (ms : List EnumMember) (x q : Name) → value_among (ms ++ valued x None ∷ []) q ≡ value_among ms q
none_more [] x q = no_value (bytes_eq x q)
none_more (n ∷ ms) x q = ap (λ (o : Option ℤ). elim o [ Some k ↦ Some k | None ↦ if bytes_eq n.name q then n.value else None ]) (none_more ms x q)

numbered : (b : Bool) (v : MemberValue) (o : Option MemberValue) → number_of (if b then Some v else o) ≡ (if b then Some v.value else number_of o)
numbered true v o = refl
numbered false v o = refl

pub value_held : (m n : Map) (name : List ℕ) (v : MemberValue) (ms : List EnumMember)
    → UpdatesBy (λ x y. slice_cmp nat_cmp x.now y.now) (λ k. slice_cmp nat_cmp name k.now) m n (Some v)
    → Holds m ms → Holds n (ms ++ valued name (Some v.value) ∷ [])
unfolding value_at
value_held m n name v ms h k = record {
  is = λ q.
      ap number_of (btree_map_updates_str name m n (Some v) h q)
      ∙ numbered (bytes_eq name q) v (get_by (λ k. slice_cmp nat_cmp q k.now) m)
      ∙ ap (λ (o : Option ℤ). if bytes_eq name q then Some v.value else o) (k.is q)
      ∙ sym (some_more ms name v.value q);
}

pub none_held : (m : Map) (name : List ℕ) (ms : List EnumMember) → Holds m ms → Holds m (ms ++ valued name None ∷ [])
none_held m name ms k = record { is = λ q. k.is q ∙ sym (none_more ms name q) }

pub nothing_held : (m : Map) → m.entries ≡ [] → Holds m []
unfolding value_at
nothing_held m e = record { is = λ q. ap (λ es. number_of (lookup (is_at (λ k. slice_cmp nat_cmp q k.now)) es)) e }

pub same_values : (m : Map) (ms : List EnumMember) → Holds m ms → value_at m ≡ value_among ms
same_values m ms h = λ i q. h.is q i

pub members_init : (names : Names) (ms members : List EnumMember) (es : List Enumerator) → members ≡ []
    → members ++ members_of names (ms ++ members) (Some (pos 0)) es ≡ members_of names ms (Some (pos 0)) es
members_init names ms members es e = ap (λ xs. xs ++ members_of names (ms ++ xs) (Some (pos 0)) es) e ∙ ap (λ bs. members_of names bs (Some (pos 0)) es) (append-nil ms)

pub held_as : (m : Map) (ms ns : List EnumMember) → ms ≡ ns → Holds m ms → Holds m ns
held_as m ms ns e h = record { is = λ q. h.is q ∙ ap (λ xs. value_among xs q) e }

-- one more member of an enumeration
pub member_more : (names : Names) (f : Values) (ms members : List EnumMember) (next : Option ℤ) (e : Enumerator) (es : List Enumerator) (v : Option ℤ)
    → f ≡ value_among (ms ++ members) → v ≡ value_of names f next e.value
    → (members ++ valued e.name v ∷ []) ++ members_of names (ms ++ (members ++ valued e.name v ∷ [])) (one_more v) es
    ≡ members ++ members_of names (ms ++ members) next (e ∷ es)
unfolding member_of
member_more names f ms members next e es v h k =
    let w = value_of names (value_among (ms ++ members)) next e.value in
    let p : v ≡ w = k ∙ ap (λ (g : Values). value_of names g next e.value) h in
    ap (λ (u : Option ℤ). (members ++ valued e.name u ∷ []) ++ members_of names (ms ++ (members ++ valued e.name u ∷ [])) (one_more u) es) p
    ∙ append_assoc members (valued e.name w ∷ []) (members_of names (ms ++ (members ++ valued e.name w ∷ [])) (one_more w) es)
    ∙ ap (λ bs. members ++ valued e.name w ∷ members_of names bs (one_more w) es) (sym (append_assoc ms members (valued e.name w ∷ [])))

pub enumeration_more : (names : Names) (found : List EnumMembers) (n : EnumMembers) (e : Enumeration) (is : List Item)
    → n ≡ enumeration_of names (all_members found) e
    → (found ++ n ∷ []) ++ enumerations_of names (all_members found ++ n.members) is ≡ found ++ enumerations_of names (all_members found) (items.Enumeration e ∷ is)
enumeration_more names found n e is h =
    append_assoc found (n ∷ []) (enumerations_of names (all_members found ++ n.members) is)
    ∙ ap (λ (m : EnumMembers). found ++ m ∷ enumerations_of names (all_members found ++ m.members) is) h

pub members_append : (found : List EnumMembers) (n : EnumMembers) → all_members (found ++ n ∷ []) ≡ all_members found ++ n.members
members_append [] n = append-nil n.members
members_append (m ∷ found) n = ap (λ xs. m.members ++ xs) (members_append found n) ∙ sym (append_assoc m.members (all_members found) n.members)

pub from_place : {A : Type 0} (xs : List A) (i : ℕ) (x : A) → i < length xs → x ≡ get_or xs i x → drop i xs ≡ x ∷ drop (i + 1) xs
from_place xs i x h e = drop_more xs i x h ∙ ap (λ y. y ∷ drop (i + 1) xs) (sym e)

pub enumeration_made : (names : Names) (ms : List EnumMember) (e : Enumeration) (x : Name) (members : List EnumMember)
    → x ≡ e.name → members ≡ members_of names ms (Some (pos 0)) e.values → built e.place x members ≡ enumeration_of names ms e
unfolding enumeration_of
enumeration_made names ms e x members h k = ap (λ y. built e.place y members) h ∙ ap (λ xs. built e.place e.name xs) k
