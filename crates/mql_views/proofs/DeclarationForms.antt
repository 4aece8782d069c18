-- The named parts of declarations are there on all parts that their forms have.
use Rattle.std.proofs.Common.{◌≡◌, ℕ, zero, suc, ◌+◌, ◌≤◌, Bool, true, false, ◌&&◌, List, [], ◌∷◌, ◌++◌, map, take, drop, length, Option, Some, None, is_some, refl, sym, ap, subst, ◌∙◌, ◌⊎◌, inl, inr, if◌then◌else◌, arith, append_assoc}
use Rattle.std.specs.Prelude.{option_map}
use Rattle.mql_forms.specs.Numbers.{form_number}
use Rattle.mql_forms.specs.declared.form.Form.{Form}
use Rattle.mql_forms.specs.declared.form.Form.TheVariants as form
use Rattle.mql_grammar.specs.Expression.{Expression, nothing, either, seq, many, part, Matches, InRow, Times}
use Rattle.mql_grammar.specs.Expressions.{a, a_token, a_node, one, one_of, args, expr, expression_of, maybe, in_order, names, name, dims, given, stars as star_words, named_type, simple_type, pointed_alone, lent, lent_alone, simple_lent, scoped as scoped_parts, base, list_of, param as param_parts, params as params_parts, function_behind_type, function as function_parts, class_parts, enumeration_parts}
use Rattle.mql_grammar.specs.Forms.{Head}
use Rattle.mql_grammar.specs.Numbers.{class_number}
use Rattle.mql_grammar.specs.declared.token_class.Class.{Class}
use Rattle.mql_grammar.specs.declared.token_class.Class.TheVariants as class
use Rattle.mql_grammar.proofs.Derivatives.{MatchesAll, firsts_all, nullable_all, all_empty}
use Rattle.mql_views.specs.Parts.{Part}
use Rattle.mql_views.specs.Laws.{heads, IsSeen}
use Rattle.mql_views.specs.Cuts.{on, is, run, until, split, must, next, last, sign, ended, may, may_be, up_to, all_to, piece_end}
use Rattle.mql_views.specs.Values.{stars}
use Rattle.mql_views.specs.Declarations.{Typed, Title, Param, Parent, Body, Block, Declared, Pure, function_words, type_words, type_forms, references, is_typed, typed_front, typed, scoped, preset_of, param_end, param_typed, param, is_param, are_params, params_stand, bases_cut, lone_body, body_of, function_end, function_params, function_named, function_typed, function_worded, function, enumeration, enumerator, braced, parent_behind, parent_cut, class_end, class_behind, class_of}
use Rattle.mql_views.proofs.Stands.{Stands, flat, flattened, opened, all_of, single, within, apart, avoids, AllAway, all_away, edges_away, edges_within, sign_stands, must_stands, next_stands, last_stands, last_on_stands, map_stands, ended_stands, none_stands, cons_stands, same_stands, some_stands, lone_stands, all_to_map, all_to_stands, up_to_stands, up_to_is, either_stands, maybe_stands, flat_stands, seq_stands, joined_stands, run_stands, may_stands, may_so_stands, may_not_stands, may_be_stands, cut_single, cut_one, cut_row, one_part, single_part, front_within, front_away, until_at, take_front, drop_front, on_on, on_map, map_some, nothing_left, one_suc}
use Rattle.mql_views.proofs.ValueForms.{seen_by}

-- in braces, with a `;` behind
pub braced_stand : (e : Expression) → avoids (class_number class.CloseBrace ∷ []) [] e ≡ true → Stands braced (a class.OpenBrace ∷ e ∷ a class.CloseBrace ∷ a class.Semicolon ∷ [])
unfolding braced class_number
braced_stand e h = sign_stands _ _ _ _ refl (up_to_stands _ e _ _ h (λ ys m. sign_stands _ _ _ _ refl (ended_stands _)))

-- up to what stands behind
pub until_is : (cs : List Class) (fs : List Form) (e : Expression) (es : List Expression) → avoids (map class_number cs) (map form_number fs) e ≡ true
    → edges_within (map class_number cs) (map form_number fs) (firsts_all es) ≡ true → nullable_all es ≡ false → (xs : List Part) → MatchesAll (e ∷ es) (heads xs)
    → (ys : List Part) × (zs : List Part) × (take (until cs fs xs) xs ≡ ys) × (drop (until cs fs xs) xs ≡ zs) × Matches e (heads ys) × MatchesAll es (heads zs)
unfolding is
until_is cs fs e es h i n xs m =
    let r = cut_row e es xs m in
    go r.0 r.1 r.2 r.3 r.4
  where
    go : (ys zs : List Part) → xs ≡ ys ++ zs → Matches e (heads ys) → MatchesAll es (heads zs)
        → (us : List Part) × (vs : List Part) × (take (until cs fs xs) xs ≡ us) × (drop (until cs fs xs) xs ≡ vs) × Matches e (heads us) × MatchesAll es (heads vs)
    go ys [] p my mz = absurd (let f : false ≡ true → ⊥ = λ e. cc in f (sym n ∙ all_empty es mz))
    go ys (z ∷ zs) p my mz =
        let k = until_at cs fs ys z zs (all_away (map class_number cs) (map form_number fs) e h (heads ys) my) (front_within cs fs es i z zs mz) in
        let q = ap (λ xs. until cs fs xs) p ∙ k in (
          ys,
          z ∷ zs,
          ap (λ xs. take (until cs fs xs) xs) p ∙ ap (λ n. take n (ys ++ z ∷ zs)) k ∙ take_front ys (z ∷ zs),
          ap (λ xs. drop (until cs fs xs) xs) p ∙ ap (λ n. drop n (ys ++ z ∷ zs)) k ∙ drop_front ys (z ∷ zs),
          my,
          mz,
        )

-- enumerations
abbrev pub enumerators : Expression
enumerators = list_of (in_order (name ∷ given ∷ []))

enumerators_stand : Stands braced (a class.OpenBrace ∷ enumerators ∷ maybe (a class.Comma) ∷ a class.CloseBrace ∷ a class.Semicolon ∷ [])
unfolding class_number form_number
enumerators_stand = record {
  there = λ xs m.
      let r = m.4 in
      (braced_stand (seq enumerators (maybe (a class.Comma))) refl).there xs
      (m.0, m.1, m.2, m.3, (r.0 ++ r.4.0, r.4.1, r.2 ∙ ap (λ us. r.0 ++ us) r.4.2 ∙ sym (append_assoc r.0 r.4.0 r.4.1), (r.0, r.4.0, refl, r.3, r.4.3), r.4.4));
}

row_stands : {B : Type 0} (k : List Part → Option B) (d e f : Expression) (es : List Expression) → Stands k (d ∷ e ∷ f ∷ es) → Stands k (d ∷ seq e f ∷ es)
row_stands k d e f es st = record { there = λ xs m. st.there xs (m.0, m.1, m.2, m.3, opened e f es m.1 m.4) }

two_rows : Stands braced (a class.OpenBrace ∷ enumerators ∷ seq (maybe (a class.Comma)) (seq (a class.CloseBrace) (a class.Semicolon)) ∷ [])
two_rows = record {
  there = λ xs m.
      let r = m.4 in
      let s = opened (maybe (a class.Comma)) (seq (a class.CloseBrace) (a class.Semicolon)) [] r.1 r.4 in
      let t = opened (a class.CloseBrace) (a class.Semicolon) [] s.1 s.4 in
      enumerators_stand.there xs (m.0, m.1, m.2, m.3, (r.0, r.1, r.2, r.3, (s.0, s.1, s.2, s.3, t)));
}

enumeration_total : Stands enumeration (enumeration_parts ∷ [])
unfolding enumeration class_number form_number
enumeration_total = seq_stands _ _ _ _ (sign_stands _ _ _ _ refl (seq_stands _ _ _ _ (must_stands names [] _ _ _ _ refl refl (λ n.
    map_stands _ braced _ (seq_stands _ _ _ _ (row_stands _ _ _ _ _ two_rows))))))

pub enumeration_seen : IsSeen form.Enumeration enumeration
unfolding expression_of
enumeration_seen parts m = enumeration_total.there parts (all_of enumeration_parts (heads parts) m)

-- classes
abbrev pub members : Expression
members = many (one_of (in_order (a class.Access ∷ a class.Colon ∷ []) ∷ a_node form.Member ∷ []))

abbrev pub class_rows : List Expression
class_rows = a class.OpenBrace ∷ members ∷ a class.CloseBrace ∷ a class.Semicolon ∷ []

members_stand : Stands braced class_rows
unfolding class_number form_number
members_stand = braced_stand members refl

abbrev pub parents : Expression
parents = in_order (a class.Colon ∷ maybe (a class.Access) ∷ one names (form.GenericType ∷ form.GenericFunction ∷ []) ∷ [])

parent_none : (es : List Expression) → edges_away (class_number class.Colon ∷ []) [] (firsts_all es) ≡ true → (xs : List Part) → MatchesAll es (heads xs) → parent_cut xs ≡ Some (None, xs)
unfolding parent_cut
parent_none es d [] m = refl
parent_none es d (x ∷ xs) m = ap (λ (b : Bool). if b then parent_behind (may_be (class.Access ∷ []) xs) else Some (None, x ∷ xs)) (front_away (class.Colon ∷ []) es d x xs m)

parent_named : {B : Type 0} (k : Option Parent × List Part → Option B) (ds gs : List ℕ) (es : List Expression) → within ds (map class_number names) ≡ true
    → within gs (map form_number (form.GenericType ∷ form.GenericFunction ∷ [])) ≡ true → ((o : Option Parent) → Stands (λ zs. k (o, zs)) es) → (o : Option Part)
    → Stands (λ zs. on (parent_behind (o, zs)) k) (part ds gs ∷ es)
unfolding parent_behind
parent_named k ds gs es h i st o = record {
  there = λ xs m.
      ap is_some (on_map (λ (t : Part × List Part). (Some (record { access = o; type = t.0 }), t.1)) (must names (form.GenericType ∷ form.GenericFunction ∷ []) xs) k)
      ∙ (must_stands names (form.GenericType ∷ form.GenericFunction ∷ []) ds gs (λ t. k (Some (record { access = o; type = t.0 }), t.1)) es h i (λ y. st (Some (record { access = o; type = y })))).there xs m;
}

parent_so : {B : Type 0} (k : Option Parent × List Part → Option B) (es : List Expression) → ((o : Option Parent) → Stands (λ zs. k (o, zs)) es)
    → Stands (λ xs. on (parent_cut xs) k) (flat parents es)
unfolding parent_cut is class_number form_number
parent_so k es st = record {
  there = λ xs m.
      let r = cut_one (class_number class.Colon ∷ []) [] (maybe (a class.Access) ∷ one names (form.GenericType ∷ form.GenericFunction ∷ []) ∷ es) xs m in
      ap (λ xs. is_some (on (parent_cut xs) k)) r.2
      ∙ ap (λ (b : Bool). is_some (on (if b then parent_behind (may_be (class.Access ∷ []) r.1) else Some (None, r.0 ∷ r.1)) k)) r.3
      ∙ (may_be_stands (class.Access ∷ []) (class_number class.Access ∷ []) (λ p. on (parent_behind p) k) (one names (form.GenericType ∷ form.GenericFunction ∷ []) ∷ es) refl refl
      (parent_named k (map class_number names) (map form_number (form.GenericType ∷ form.GenericFunction ∷ [])) es refl refl st)).there r.1 r.4;
}

parent_stands : {B : Type 0} (k : Option Parent × List Part → Option B) (es : List Expression) → edges_away (class_number class.Colon ∷ []) [] (firsts_all es) ≡ true
    → ((o : Option Parent) → Stands (λ zs. k (o, zs)) es) → Stands (λ xs. on (parent_cut xs) k) (maybe parents ∷ es)
parent_stands k es d st = maybe_stands (λ xs. on (parent_cut xs) k) parents es
    (record { there = λ xs m. ap (λ o. is_some (on o k)) (parent_none es d xs m) ∙ (st None).there xs m })
    (parent_so k es st)

class_end_stands : (k n : Part) → Stands (class_end k n) (maybe parents ∷ class_rows)
unfolding class_end class_number form_number
class_end_stands k n = parent_stands _ _ refl (λ p. map_stands _ braced _ members_stand)

class_announced : (k n : Part) → Stands (class_behind k n) (a class.Semicolon ∷ [])
unfolding class_behind class_number is
class_announced k n = record {
  there = λ xs m.
      let r = cut_one (class_number class.Semicolon ∷ []) [] [] xs m in
      ap (λ xs. is_some (class_behind k n xs)) r.2 ∙ ap (λ (b : Bool). is_some (if b then Some (record { kind = k; name = n; parent = None; members = None }) else class_end k n (r.0 ∷ r.1))) r.3;
}

class_defined : (k n : Part) → Stands (class_behind k n) (maybe parents ∷ class_rows)
unfolding class_behind class_number form_number
class_defined k n = record { there = go }
  where
    go : (xs : List Part) → MatchesAll (maybe parents ∷ class_rows) (heads xs) → is_some (class_behind k n xs) ≡ true
    go [] m = absurd (let g : false ≡ true → ⊥ = λ e. cc in g (all_empty (maybe parents ∷ class_rows) m))
    go (x ∷ xs) m =
        ap (λ (b : Bool). is_some (if b then Some (record { kind = k; name = n; parent = None; members = None }) else class_end k n (x ∷ xs))) (front_away (class.Semicolon ∷ []) (maybe parents ∷ class_rows) refl x xs m)
        ∙ (class_end_stands k n).there (x ∷ xs) m

pub class_seen : IsSeen form.Class class_of
unfolding class_of expression_of class_number form_number
class_seen = seen_by form.Class class_of (must_stands _ _ _ _ _ _ refl refl (λ k. must_stands _ _ _ _ _ _ refl refl (λ n.
    either_stands _ _ _ _ (flat_stands _ _ _ (class_announced k n)) (flat_stands _ _ _ (class_defined k n)))))
