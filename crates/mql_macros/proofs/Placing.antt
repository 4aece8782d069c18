-- The map of names follows the list.
use Rattle.std.proofs.Common.{◌≡◌, ℕ, Bool, true, false, cond, bytes_eq, List, [], ◌∷◌, ◌++◌, length, refl, sym, ap, subst, ◌∙◌, arith, Option, Some, None}
use Rattle.std.proofs.lemmas.Map.Text.{is_eq-slice_cmp}
use Rattle.std.specs.Ordering.{is_eq, nat_cmp}
use Rattle.std.specs.Cmp.{eq_by_cmp_equiv}
use Rattle.std.specs.Cmp.Lexicographic.{slice_cmp, bytes_decides, nat_list_cmp_total, nat_list_eq_equiv}
use Rattle.std.specs.BTreeMap.{BTreeMap, Updates, get_by, is_at}
use Rattle.std.specs.Map.{lookup, IsKeyTest, AreApart, KeepsOthers}
use Rattle.std.specs.Global.{Vec}
use Rattle.mql_macros.specs.declared.piece.Macro.{Macro}
use Rattle.mql_macros.specs.Looks.{counted, last_named}
use Rattle.mql_macros.specs.Places.{place_in, ArePlaces}

-- no macros have no places
pub none_placed : (places : BTreeMap (Vec ℕ) ℕ) (macros : List Macro) → places.entries ≡ [] → macros ≡ [] → ArePlaces places macros
unfolding place_in
none_placed places macros e n = record {
  tells = λ q. ap (lookup (is_at (λ k. slice_cmp nat_cmp q k.items))) e ∙ ap (last_named q) (sym n);
}

-- the last of a name where one more macro stands behind
last_behind : (q : List ℕ) (macros : List Macro) (m : Macro) → last_named q (macros ++ m ∷ []) ≡ cond (bytes_eq m.name q) (Some (length macros)) (last_named q macros)
last_behind q [] m = (elim (bytes_eq m.name q) as (λ b. counted b None ≡ cond b (Some 0) None) [ true ↦ refl | false ↦ refl ])
last_behind q (x ∷ xs) m = ap (counted (bytes_eq x.name q)) (last_behind q xs m) ∙ by (bytes_eq m.name q) (bytes_eq x.name q)
  where
    by : (b c : Bool) → counted c (cond b (Some (length xs)) (last_named q xs)) ≡ cond b (Some (length (x ∷ xs))) (counted c (last_named q xs))
    by true c = ap Some (omega arith)
    by false c = refl

keeps : {K X : Type 0} (eq : K → K → Bool) (test : K → Bool) (old new : List (K × X)) → KeepsOthers eq test old new → (other : K → Bool) → IsKeyTest eq other → AreApart test other → lookup other new ≡ lookup other old
unfolding KeepsOthers
keeps eq test old new h = h

apart : (name q key : List ℕ) → bytes_eq name q ≡ false → is_eq (slice_cmp nat_cmp name key) ≡ true → is_eq (slice_cmp nat_cmp q key) ≡ false
apart name q key n y =
    is_eq-slice_cmp q key ∙ nat_list_eq_equiv.symm q key
    ∙ sym (nat_list_eq_equiv.congr name key q (sym (is_eq-slice_cmp name key) ∙ y)) ∙ n

-- the place of a name behind an insertion
pub place_behind : (old new : BTreeMap (Vec ℕ) ℕ) (key : Vec ℕ) (place : ℕ) → Updates (λ x y. slice_cmp nat_cmp x.items y.items) old new key (Some place) → (q : List ℕ) → place_in new q ≡ cond (bytes_eq key.items q) (Some place) (place_in old q)
unfolding place_in
place_behind old new key place h q = by (bytes_eq key.items q) refl
  where
    by : (b : Bool) → bytes_eq key.items q ≡ b → place_in new q ≡ cond b (Some place) (place_in old q)
    by true e = subst (λ (l : List ℕ). place_in new l ≡ Some place) ((bytes_decides key.items q).0 e) h.1
    by false e =
        keeps _ _ old.entries new.entries h.3 (is_at (λ k. slice_cmp nat_cmp q k.items))
        (λ x y. (eq_by_cmp_equiv nat_list_cmp_total).congr q x.items y.items) (λ k. apart key.items q k.items e)

-- one more macro, and its place in the map
pub one_placed : (old new : BTreeMap (Vec ℕ) ℕ) (macros pushed : List Macro) (key : Vec ℕ) (name : List ℕ) (place : ℕ) (m : Macro) → ArePlaces old macros → Updates (λ x y. slice_cmp nat_cmp x.items y.items) old new key (Some place) → key.items ≡ name → name ≡ m.name → place ≡ length macros → pushed ≡ macros ++ m ∷ [] → ArePlaces new pushed
one_placed old new macros pushed key name place m a h k n l p = record {
  tells = λ q.
      place_behind old new key place h q
      ∙ ap (λ (x : List ℕ). cond (bytes_eq x q) (Some place) (place_in old q)) (k ∙ n)
      ∙ ap (λ (o : Option ℕ). cond (bytes_eq m.name q) (Some place) o) (a.tells q)
      ∙ ap (λ (i : ℕ). cond (bytes_eq m.name q) (Some i) (last_named q macros)) l
      ∙ sym (last_behind q macros m)
      ∙ ap (last_named q) (sym p);
}

-- what is found in the map of a name
pub found_placed : (places : BTreeMap (Vec ℕ) ℕ) (macros : List Macro) (q : List ℕ) (found : Option ℕ) → ArePlaces places macros → found ≡ get_by (λ k. slice_cmp nat_cmp q k.items) places → found ≡ last_named q macros
unfolding place_in
found_placed places macros q found a e = e ∙ a.tells q
