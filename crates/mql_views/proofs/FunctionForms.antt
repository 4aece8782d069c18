-- The named parts of functions are there on all parts that functions have.
use Rattle.std.proofs.Common.{◌≡◌, ℕ, zero, suc, ◌+◌, ◌≤◌, ◌<◌, nat_le, Bool, true, false, not, ◌&&◌, List, [], ◌∷◌, ◌++◌, map, take, drop, length, Option, Some, None, is_some, refl, sym, ap, subst, ◌∙◌, ◌⊎◌, inl, inr, if◌then◌else◌, arith, append_assoc, length-append}
use Rattle.std.specs.Prelude.{option_map}
use Rattle.mql_forms.specs.Numbers.{form_number}
use Rattle.mql_forms.specs.declared.form.Form.{Form}
use Rattle.mql_forms.specs.declared.form.Form.TheVariants as form
use Rattle.mql_grammar.specs.Expression.{Expression, stub, never, nothing, either, seq, many, part, among, Matches, InRow, Times}
use Rattle.mql_grammar.specs.Expressions.{a, a_token, a_node, one, one_of, expr, expression_of, maybe, in_order, names, name, dims, given, named_type, simple_type, pointed_alone, lent, lent_alone, simple_lent, scoped as scoped_parts, base, list_of, param as param_parts, params as params_parts, function_behind_type, function as function_parts}
use Rattle.mql_grammar.specs.Expressions as grammar
use Rattle.mql_grammar.specs.Forms.{Head}
use Rattle.mql_grammar.specs.Numbers.{class_number}
use Rattle.mql_grammar.specs.declared.token_class.Class.{Class}
use Rattle.mql_grammar.specs.declared.token_class.Class.TheVariants as class
use Rattle.mql_grammar.proofs.Derivatives.{MatchesAll, firsts_all, nullable_all, all_empty}
use Rattle.mql_views.specs.Parts.{Part}
use Rattle.mql_views.specs.Laws.{heads, IsSeen}
use Rattle.mql_views.specs.Cuts.{on, is, run, until, split, must, next, last, sign, ended, may, up_to, piece_end}
use Rattle.mql_views.specs.Values.{stars}
use Rattle.mql_views.specs.Declarations.{Typed, Title, Param, Body, Block, Declared, Pure, function_words, type_words, type_forms, references, is_typed, typed_front, typed, scoped, preset_of, param_end, param_typed, param, is_param, are_params, params_stand, bases_cut, lone_body, body_of, function_end, function_params, function_named, function_typed, function_worded, function}
use Rattle.mql_views.proofs.Stands.{Stands, flat, flattened, opened, all_of, single, within, apart, avoids, AllAway, all_away, edges_away, edges_within, first_away, sign_stands, must_stands, last_stands, map_stands, ended_stands, none_stands, cons_stands, same_stands, behind_stands, up_to_stands, either_stands, maybe_stands, flat_stands, seq_stands, run_stands, may_stands, may_so_stands, may_not_stands, may_none, away_head, cut_single, cut_one, cut_row, cut_map, one_part, inside_head, front_within, front_away, until_at, take_front, drop_front, map_some, nothing_left, one_suc}
use Rattle.mql_views.proofs.DeclarationForms.{until_is}

and_false : (b : Bool) → (b && false) ≡ false
and_false true = refl
and_false false = refl

-- the second of two rows: one or the other, there or not
second_maybe : {B : Type 0} (k : List Part → Option B) (d e : Expression) (es : List Expression) → Stands k (d ∷ es) → Stands k (d ∷ e ∷ es) → Stands k (d ∷ either nothing e ∷ es)
second_maybe k d e es left right = record {
  there = λ xs m.
      (elim m.4.3 as (λ x. is_some (k xs) ≡ true) [
        | inl x ↦ left.there xs (m.0, m.4.1, m.2 ∙ ap (λ us. m.0 ++ us) (m.4.2 ∙ ap (λ us. us ++ m.4.1) x), m.3, m.4.4)
        | inr x ↦ right.there xs (m.0, m.1, m.2, m.3, (m.4.0, m.4.1, m.4.2, x, m.4.4))
      ]);
}

abbrev behind_types : List Class
behind_types = class.Tilde ∷ stars ++ names

-- a type, without `*` and with it
typed_plain : {B : Type 0} (k : Option Typed × List Part → Option B) (ds gs : List ℕ) (es : List Expression)
    → within ds (map class_number type_words) ≡ true → within gs (map form_number type_forms) ≡ true
    → edges_away (map class_number stars) [] (firsts_all es) ≡ true → edges_within (map class_number behind_types) [] (firsts_all es) ≡ true → nullable_all es ≡ false
    → ((o : Option Typed) → Stands (λ zs. k (o, zs)) es) → Stands (λ xs. k (typed xs)) (part ds gs ∷ es)
unfolding typed is_typed typed_front is
typed_plain {B = B} k ds gs es h i away near n st = record {
  there = λ xs m.
      let r = cut_one ds gs es xs m in
      ap (λ xs. is_some (k (typed xs))) r.2 ∙ go r.0 r.1 (inside_head (map class_number type_words) (map form_number type_forms) ds gs r.0.head h i r.3) r.4;
}
  where
    go : (t : Part) (zs : List Part) → is type_words type_forms t ≡ true → MatchesAll es (heads zs) → is_some (k (typed (t ∷ zs))) ≡ true
    go t [] e m = absurd (let f : false ≡ true → ⊥ = λ e. cc in f (sym n ∙ all_empty es m))
    go t (s ∷ zs) e m =
        ap (λ (b : Bool). is_some (k (if b && is behind_types [] s then typed_front (t ∷ s ∷ zs) else (None, t ∷ s ∷ zs)))) e
        ∙ ap (λ (b : Bool). is_some (k (if b then typed_front (t ∷ s ∷ zs) else (None, t ∷ s ∷ zs)))) (front_within behind_types [] es near s zs m)
        ∙ ap (λ (p : Bool × List Part). is_some (k (Some (record { type = t; pointer = p.0 }), p.1))) (may_none stars es away (s ∷ zs) m)
        ∙ (st (Some (record { type = t; pointer = false }))).there (s ∷ zs) m

typed_star : {B : Type 0} (k : Option Typed × List Part → Option B) (ds gs ss : List ℕ) (es : List Expression)
    → within ds (map class_number type_words) ≡ true → within gs (map form_number type_forms) ≡ true → within ss (map class_number stars) ≡ true
    → ((o : Option Typed) → Stands (λ zs. k (o, zs)) es) → Stands (λ xs. k (typed xs)) (part ds gs ∷ part ss [] ∷ es)
unfolding typed is_typed typed_front is may class_number
typed_star k ds gs ss es h i j st = record {
  there = λ xs m.
      let r = cut_one ds gs (part ss [] ∷ es) xs m in
      let s = cut_one ss [] es r.1 r.4 in
      let e = inside_head (map class_number type_words) (map form_number type_forms) ds gs r.0.head h i r.3 in
      let f = inside_head (map class_number stars) [] ss [] s.0.head j refl s.3 in
      ap (λ xs. is_some (k (typed xs))) (r.2 ∙ ap (λ zs. r.0 ∷ zs) s.2)
      ∙ ap (λ (b : Bool). is_some (k (if b && is behind_types [] s.0 then typed_front (r.0 ∷ s.0 ∷ s.1) else (None, r.0 ∷ s.0 ∷ s.1)))) e
      ∙ ap (λ (b : Bool). is_some (k (if b then typed_front (r.0 ∷ s.0 ∷ s.1) else (None, r.0 ∷ s.0 ∷ s.1)))) (star_behind s.0 f)
      ∙ ap (λ (b : Bool). is_some (k (let p : Bool × List Part = (if b then (true, s.1) else (false, s.0 ∷ s.1)) in (Some (record { type = r.0; pointer = p.0 }), p.1)))) f
      ∙ (st (Some (record { type = r.0; pointer = true }))).there s.1 s.4;
}
  where
    star_behind : (s : Part) → among (map class_number stars) [] s.head ≡ true → among (map class_number behind_types) [] s.head ≡ true
    star_behind s f = inside_head (map class_number behind_types) [] (map class_number stars) [] s.head refl refl f

pointed_typed : {B : Type 0} (k : Option Typed × List Part → Option B) (es : List Expression)
    → edges_away (map class_number stars) [] (firsts_all es) ≡ true → edges_within (map class_number behind_types) [] (firsts_all es) ≡ true → nullable_all es ≡ false
    → ((o : Option Typed) → Stands (λ zs. k (o, zs)) es) → Stands (λ xs. k (typed xs)) (pointed_alone ∷ es)
unfolding class_number form_number
pointed_typed k es away near n st = either_stands _ _ _ _
    (flat_stands _ _ _ (second_maybe _ _ _ _ (typed_plain k _ _ es refl refl away near n st) (typed_star k _ _ _ es refl refl refl st)))
    (flat_stands _ _ _ (second_maybe _ _ _ _ (typed_plain k _ _ es refl refl away near n st) (typed_star k _ _ _ es refl refl refl st)))

-- no type: it begins otherwise, or what is behind is not behind a type
first_no_type : (es : List Expression) → edges_away (map class_number type_words) (map form_number type_forms) (firsts_all es) ≡ true → (xs : List Part) → MatchesAll es (heads xs) → is_typed xs ≡ false
unfolding is_typed is
first_no_type es d [] m = refl
first_no_type es d (x ∷ []) m = refl
first_no_type es d (x ∷ y ∷ xs) m = ap (λ (b : Bool). b && is behind_types [] y) (first_away (map class_number type_words) (map form_number type_forms) es d x.head (heads (y ∷ xs)) m)

second_no_type : (e : Expression) (es : List Expression) → single e ≡ true → edges_away (map class_number behind_types) [] (firsts_all es) ≡ true → (xs : List Part) → MatchesAll (e ∷ es) (heads xs) → is_typed xs ≡ false
unfolding is_typed
second_no_type e es h d xs m = let r = cut_single e es h xs m in ap is_typed r.2 ∙ go r.0 r.1 r.3
  where
    go : (y : Part) (zs : List Part) → MatchesAll es (heads zs) → is_typed (y ∷ zs) ≡ false
    go y [] m = refl
    go y (z ∷ zs) m = ap (λ (b : Bool). is type_words type_forms y && b) (front_away behind_types es d z zs m) ∙ and_false (is type_words type_forms y)

-- what stands before the parentheses, without a type
abbrev title_rows : List Expression → List Expression
title_rows more = scoped_parts ∷ maybe (a class.Tilde) ∷ name ∷ a class.OpenParen ∷ more

abbrev plain_rows : List Expression → List Expression
plain_rows more = maybe (a class.Tilde) ∷ name ∷ a class.OpenParen ∷ more

plain_no_type : (more : List Expression) (xs : List Part) → MatchesAll (plain_rows more) (heads xs) → is_typed xs ≡ false
unfolding class_number form_number
plain_no_type more xs (us, vs, e, inl x, m) = second_no_type name (a class.OpenParen ∷ more) refl refl xs (flattened nothing (name ∷ a class.OpenParen ∷ more) (heads xs) (us, vs, e, x, m))
plain_no_type more xs (us, vs, e, inr x, m) = first_no_type (a class.Tilde ∷ name ∷ a class.OpenParen ∷ more) refl xs (us, vs, e, x, m)

no_type : (more : List Expression) (xs : List Part) → MatchesAll (title_rows more) (heads xs) → is_typed xs ≡ false
unfolding class_number form_number
no_type more xs (us, vs, e, inl x, m) = plain_no_type more xs (flattened nothing (plain_rows more) (heads xs) (us, vs, e, x, m))
no_type more xs (us, vs, e, inr x, m) = second_no_type name (a class.DoubleColon ∷ plain_rows more) refl refl xs (opened name (a class.DoubleColon) (plain_rows more) (heads xs) (us, vs, e, x, m))

untyped_stands : {B : Type 0} (k : Option Typed × List Part → Option B) (more : List Expression) → Stands (λ zs. k (None, zs)) (title_rows more) → Stands (λ xs. k (typed xs)) (title_rows more)
unfolding typed
untyped_stands k more st = record { there = λ xs m. ap (λ (b : Bool). is_some (k (if b then typed_front xs else (None, xs)))) (no_type more xs m) ∙ st.there xs m }

-- [NAME "::"]
second_no_colons : (e : Expression) (es : List Expression) → single e ≡ true → edges_away (class_number class.DoubleColon ∷ []) [] (firsts_all es) ≡ true → (xs : List Part) → MatchesAll (e ∷ es) (heads xs) → scoped xs ≡ (None, xs)
unfolding scoped
second_no_colons e es h d xs m = let r = cut_single e es h xs m in ap scoped r.2 ∙ go r.0 r.1 r.3 ∙ ap (λ xs. (None, xs)) (sym r.2)
  where
    go : (y : Part) (zs : List Part) → MatchesAll es (heads zs) → scoped (y ∷ zs) ≡ (None, y ∷ zs)
    go y [] m = refl
    go y (z ∷ zs) m = ap (λ (b : Bool). if b then (Some y, zs) else (None, y ∷ z ∷ zs)) (front_away (class.DoubleColon ∷ []) es d z zs m)

plain_no_colons : (more : List Expression) (xs : List Part) → MatchesAll (plain_rows more) (heads xs) → scoped xs ≡ (None, xs)
unfolding class_number form_number
plain_no_colons more xs (us, vs, e, inl x, m) = second_no_colons name (a class.OpenParen ∷ more) refl refl xs (flattened nothing (name ∷ a class.OpenParen ∷ more) (heads xs) (us, vs, e, x, m))
plain_no_colons more xs (us, vs, e, inr x, m) = second_no_colons (a class.Tilde) (name ∷ a class.OpenParen ∷ more) refl refl xs (us, vs, e, x, m)

scoped_stands : {B : Type 0} (k : Option Part × List Part → Option B) (more : List Expression) → ((o : Option Part) → Stands (λ zs. k (o, zs)) (plain_rows more)) → Stands (λ xs. k (scoped xs)) (title_rows more)
unfolding scoped is
scoped_stands k more st = maybe_stands (λ xs. k (scoped xs)) (in_order (name ∷ a class.DoubleColon ∷ [])) (plain_rows more)
    (record { there = λ xs m. ap (λ p. is_some (k p)) (plain_no_colons more xs m) ∙ (st None).there xs m })
    (record {
      there = λ xs m.
          let r = cut_one (map class_number names) [] (a class.DoubleColon ∷ plain_rows more) xs m in
          let d = cut_one (class_number class.DoubleColon ∷ []) [] (plain_rows more) r.1 r.4 in
          ap (λ xs. is_some (k (scoped xs))) (r.2 ∙ ap (λ zs. r.0 ∷ zs) d.2)
          ∙ ap (λ (b : Bool). is_some (k (if b then (Some r.0, d.1) else (None, r.0 ∷ d.0 ∷ d.1)))) d.3
          ∙ (st (Some r.0)).there d.1 d.4;
    })

-- behind the parentheses
abbrev bases : Expression
bases = in_order (a class.Colon ∷ list_of base ∷ [])

abbrev bodies : Expression
bodies = one_of (a_node form.Block ∷ a class.Semicolon ∷ in_order (a class.Assign ∷ a class.Zero ∷ a class.Semicolon ∷ []) ∷ [])

abbrev body_rows : List Expression
body_rows = maybe (a class.Override) ∷ bodies ∷ []

bases_none : (xs : List Part) → MatchesAll body_rows (heads xs) → bases_cut xs ≡ ([], xs)
unfolding bases_cut class_number form_number
bases_none [] m = refl
bases_none (x ∷ xs) m = ap (λ (b : Bool). if b then split (until (class.Override ∷ class.Semicolon ∷ class.Assign ∷ []) (form.Block ∷ []) xs) xs else ([], x ∷ xs)) (front_away (class.Colon ∷ []) body_rows refl x xs m)

abbrev ends_bases : List Part → ℕ
ends_bases xs = until (class.Override ∷ class.Semicolon ∷ class.Assign ∷ []) (form.Block ∷ []) xs

bases_stand : {B : Type 0} (k : List Part × List Part → Option B) → ((ys : List Part) → Stands (λ zs. k (ys, zs)) body_rows) → Stands (λ xs. k (bases_cut xs)) (maybe bases ∷ body_rows)
unfolding bases_cut is class_number form_number
bases_stand k st = either_stands (λ xs. k (bases_cut xs)) nothing bases body_rows
    (flat_stands _ _ _ (record { there = λ xs m. ap (λ p. is_some (k p)) (bases_none xs m) ∙ (st []).there xs m }))
    (seq_stands _ _ _ _ (record {
      there = λ xs m.
          let r = cut_one (class_number class.Colon ∷ []) [] (list_of base ∷ body_rows) xs m in
          let u = until_is (class.Override ∷ class.Semicolon ∷ class.Assign ∷ []) (form.Block ∷ []) (list_of base) body_rows refl refl refl r.1 r.4 in
          ap (λ xs. is_some (k (bases_cut xs))) r.2
          ∙ ap (λ (b : Bool). is_some (k (if b then split (ends_bases r.1) r.1 else ([], r.0 ∷ r.1)))) r.3
          ∙ ap (λ ys. is_some (k (ys, drop (ends_bases r.1) r.1))) u.2
          ∙ ap (λ zs. is_some (k (u.0, zs))) u.3
          ∙ (st u.0).there u.1 u.5;
    }))

-- block | ";" | "=" "0" ";"
lone_choice : (b c : Bool) (x y : Body) → (b ≡ true) ⊎ (c ≡ true) → is_some (if b then Some x else if c then Some y else None) ≡ true
lone_choice true c x y e = refl
lone_choice false true x y e = refl
lone_choice false false x y (inl e) = absurd (let f : false ≡ true → ⊥ = λ e. cc in f e)
lone_choice false false x y (inr e) = absurd (let f : false ≡ true → ⊥ = λ e. cc in f e)

body_lone : (ds gs : List ℕ) → ((y : Part) → among ds gs y.head ≡ true → (is [] (form.Block ∷ []) y ≡ true) ⊎ (is (class.Semicolon ∷ []) [] y ≡ true)) → Stands body_of (part ds gs ∷ [])
unfolding body_of lone_body
body_lone ds gs f = record {
  there = λ xs m.
      let r = cut_one ds gs [] xs m in
      ap (λ xs. is_some (body_of xs)) (r.2 ∙ ap (λ zs. r.0 ∷ zs) (nothing_left r.1 r.4))
      ∙ lone_choice (is [] (form.Block ∷ []) r.0) (is (class.Semicolon ∷ []) [] r.0) (Block r.0) Declared (f r.0 r.3);
}

abbrev pure_rows : List Expression
pure_rows = a class.Assign ∷ a class.Zero ∷ a class.Semicolon ∷ []

abbrev pure_of : List Part → Option Body
pure_of xs = on (sign (class.Assign ∷ []) xs) (λ ys. on (sign (class.Zero ∷ []) ys) (λ zs. on (sign (class.Semicolon ∷ []) zs) (ended Pure)))

pure_stands : Stands pure_of pure_rows
unfolding class_number
pure_stands = sign_stands _ _ _ _ refl (sign_stands _ _ _ _ refl (sign_stands _ _ _ _ refl (ended_stands _)))

body_pure : Stands body_of pure_rows
unfolding body_of
body_pure = record {
  there = λ xs m.
      let r = cut_one (class_number class.Assign ∷ []) [] (a class.Zero ∷ a class.Semicolon ∷ []) xs m in
      let s = cut_one (class_number class.Zero ∷ []) [] (a class.Semicolon ∷ []) r.1 r.4 in
      let e = r.2 ∙ ap (λ zs. r.0 ∷ zs) s.2 in
      ap (λ xs. is_some (body_of xs)) e ∙ pure_stands.there (r.0 ∷ s.0 ∷ s.1) (subst (λ xs. MatchesAll pure_rows (heads xs)) e m);
}

body_stands : Stands body_of (bodies ∷ [])
unfolding is class_number form_number
body_stands = either_stands _ _ _ _ (flat_stands _ _ _ (body_lone _ _ (λ y h. inl h)))
    (either_stands _ _ _ _ (flat_stands _ _ _ (body_lone _ _ (λ y h. inr h))) (flat_stands _ _ _ body_pure))

end_stands : (t : Title) (ps : List Part) → Stands (function_end t ps) (maybe bases ∷ body_rows)
unfolding function_end class_number form_number
end_stands t ps = bases_stand (λ b. let o = may (class.Override ∷ []) b.1 in option_map (λ body. record {
  words = t.words;
  result = t.result;
  scope = t.scope;
  destructor = t.destructor;
  name = t.name;
  params = ps;
  bases = b.0;
  overrides = o.0;
  body = body;
}) (body_of o.1))
    (λ ys. may_stands (class.Override ∷ []) _ (λ o. option_map (λ body. record {
      words = t.words;
      result = t.result;
      scope = t.scope;
      destructor = t.destructor;
      name = t.name;
      params = ps;
      bases = ys;
      overrides = o.0;
      body = body;
    }) (body_of o.1)) _ refl refl (λ o. map_stands _ body_of _ body_stands))

-- the default of a parameter
abbrev ends_dims : List Part → ℕ
ends_dims xs = until (class.Assign ∷ []) [] xs

until_all : (cs : List Class) (fs : List Form) (xs : List Part) → AllAway (map class_number cs) (map form_number fs) (heads xs) → until cs fs xs ≡ length xs
unfolding is
until_all cs fs [] w = refl
until_all cs fs (x ∷ xs) w = ap (λ (b : Bool). if b then 0 else 1 + until cs fs xs) w.0 ∙ ap (λ n. 1 + n) (until_all cs fs xs w.1) ∙ one_suc (length xs)

drop_length : (xs : List Part) → drop (length xs) xs ≡ []
drop_length [] = refl
drop_length (x ∷ xs) = drop_length xs

preset_some : Stands preset_of (a class.Assign ∷ expr ∷ [])
unfolding preset_of class_number
preset_some = cons_stands preset_of (λ xs. on (sign (class.Assign ∷ []) xs) (λ ys. option_map (λ v. Some v) (last ys))) _ refl (λ x xs. refl)
    (sign_stands _ _ _ _ refl (last_stands expr _ refl))

preset_behind : (xs : List Part) → MatchesAll (dims ∷ given ∷ []) (heads xs) → is_some (preset_of (drop (ends_dims xs) xs)) ≡ true
unfolding preset_of class_number form_number
preset_behind xs m =
    let r = cut_row dims (given ∷ []) xs m in
    (elim r.4.3 as (λ x. is_some (preset_of (drop (ends_dims xs) xs)) ≡ true) [
      | inl e ↦
          let z = nothing_left r.1 (r.4.2 ∙ ap (λ us. us ++ r.4.1) e ∙ r.4.4) in
          let p = r.2 ∙ ap (λ zs. r.0 ++ zs) z ∙ append_nil r.0 in
          ap (λ xs. is_some (preset_of (drop (ends_dims xs) xs))) p
          ∙ ap (λ n. is_some (preset_of (drop n r.0))) (until_all (class.Assign ∷ []) [] r.0 (all_away (class_number class.Assign ∷ []) [] dims refl (heads r.0) r.3))
          ∙ ap (λ zs. is_some (preset_of zs)) (drop_length r.0)
      | inr w ↦
          let here = flattened (in_order (a class.Assign ∷ expr ∷ [])) [] (heads r.1) (r.4.0, r.4.1, r.4.2, w, r.4.4) in
          let u = until_is (class.Assign ∷ []) [] dims (a class.Assign ∷ expr ∷ []) refl refl refl xs (subst (λ xs. MatchesAll (dims ∷ a class.Assign ∷ expr ∷ []) (heads xs)) (sym r.2) (row_of r.0 r.1 r.3 here)) in
          ap (λ zs. is_some (preset_of zs)) u.3 ∙ preset_some.there u.1 u.5
    ])
  where
    append_nil : (xs : List Part) → xs ++ [] ≡ xs
    append_nil [] = refl
    append_nil (x ∷ xs) = ap (λ ys. x ∷ ys) (append_nil xs)

    row_of : (ys zs : List Part) → Matches dims (heads ys) → MatchesAll (a class.Assign ∷ expr ∷ []) (heads zs) → MatchesAll (dims ∷ a class.Assign ∷ expr ∷ []) (heads (ys ++ zs))
    row_of ys zs my mz = (heads ys, heads zs, heads_append ys zs, my, mz)
      where
        heads_append : (ys zs : List Part) → heads (ys ++ zs) ≡ heads ys ++ heads zs
        heads_append [] zs = refl
        heads_append (y ∷ ys) zs = ap (λ us. y.head ∷ us) (heads_append ys zs)

param_end_stands : (c : Bool) (t : Typed) (r : Bool) (n : Part) → Stands (param_end c t r n) (dims ∷ given ∷ [])
unfolding param_end
param_end_stands c t r n = record { there = λ xs m. map_some _ (preset_of (drop (ends_dims xs) xs)) ∙ preset_behind xs m }

abbrev param_rows : List Expression
param_rows = name ∷ dims ∷ given ∷ []

-- behind a type: nothing, `*`, `&`, or both
abbrev referred : Bool → Part → Bool → Bool × List Part → Option Param
referred c t p r = on (must names [] r.1) (λ n. param_end c (record { type = t; pointer = p }) r.0 n.0 n.1)

named_stands : (c : Bool) (t : Part) (p r : Bool) → Stands (λ zs. referred c t p (r, zs)) param_rows
unfolding class_number form_number
named_stands c t p r = must_stands names [] _ _ _ _ refl refl (λ n. param_end_stands c (record { type = t; pointer = p }) r n)

unreferred_stands : (c : Bool) (t : Part) (p : Bool) → Stands (λ zs. referred c t p (may references zs)) param_rows
unfolding class_number form_number
unreferred_stands c t p = may_not_stands references (referred c t p) param_rows refl (named_stands c t p false)

referred_stands : (c : Bool) (t : Part) (p : Bool) (ds : List ℕ) → within ds (map class_number references) ≡ true → Stands (λ zs. referred c t p (may references zs)) (maybe (part ds []) ∷ param_rows)
unfolding class_number form_number
referred_stands c t p ds h = may_stands references ds (referred c t p) param_rows h refl (λ r. named_stands c t p r)

abbrev starred : Bool → Part → Bool × List Part → Option Param
starred c t p = referred c t p.0 (may references p.1)

simple_lent_stands : (c : Bool) (t : Part) → Stands (param_typed c t) (maybe (a class.Star) ∷ maybe (a class.Ampersand) ∷ param_rows)
unfolding param_typed class_number form_number
simple_lent_stands c t = may_stands stars _ (starred c t) _ refl refl (λ p. referred_stands c t p _ refl)

alone_lent_stands : (c : Bool) (t : Part) → Stands (param_typed c t) (maybe grammar.stars ∷ maybe (a_token (class.Reference ∷ class.Ampersand ∷ [])) ∷ param_rows)
unfolding param_typed class_number form_number
alone_lent_stands c t = may_stands stars _ (starred c t) _ refl refl (λ p. referred_stands c t p _ refl)

abbrev lent_choice : Expression
lent_choice = one_of (in_order (a class.PointerStar ∷ maybe (a class.Ampersand) ∷ []) ∷ a class.Reference ∷ [])

lent_stands : (c : Bool) (t : Part) → Stands (param_typed c t) (maybe lent_choice ∷ param_rows)
unfolding param_typed class_number form_number
lent_stands c t = maybe_stands _ _ _ (may_not_stands stars (starred c t) _ refl (unreferred_stands c t false))
    (either_stands _ _ _ _
    (flat_stands _ _ _ (may_so_stands stars _ (starred c t) _ refl (referred_stands c t true _ refl)))
    (flat_stands _ _ _ (may_not_stands stars (starred c t) _ refl (may_so_stands references _ (referred c t false) _ refl (named_stands c t false true)))))

-- a parameter, with either type
abbrev behind_const : Bool × List Part → Option Param
behind_const c = on (must type_words type_forms c.1) (λ t. param_typed c.0 t.0 t.1)

lent_typed : (c : Bool) → Stands (λ zs. behind_const (c, zs)) (lent ∷ param_rows)
unfolding class_number form_number
lent_typed c = either_stands _ _ _ _
    (flat_stands _ _ _ (must_stands _ _ _ _ _ _ refl refl (λ t. lent_stands c t)))
    (flat_stands _ _ _ (must_stands _ _ _ _ _ _ refl refl (λ t. simple_lent_stands c t)))

alone_typed : (c : Bool) → Stands (λ zs. behind_const (c, zs)) (lent_alone ∷ param_rows)
unfolding class_number form_number
alone_typed c = either_stands _ _ _ _
    (flat_stands _ _ _ (must_stands _ _ _ _ _ _ refl refl (λ t. alone_lent_stands c t)))
    (flat_stands _ _ _ (must_stands _ _ _ _ _ _ refl refl (λ t. simple_lent_stands c t)))

pub lent_param : Stands param (param_parts lent ∷ [])
unfolding param class_number form_number
lent_param = flat_stands _ _ _ (may_stands _ _ behind_const _ refl refl lent_typed)

pub alone_param : Stands param (param_parts lent_alone ∷ [])
unfolding param class_number form_number
alone_param = flat_stands _ _ _ (may_stands _ _ behind_const _ refl refl alone_typed)

-- a piece ends before the comma behind it, or where nothing is behind it
abbrev Plain : List Part → Type 0
Plain xs = AllAway (class_number class.OpenParen ∷ []) [] (heads xs) × AllAway (class_number class.CloseParen ∷ []) [] (heads xs) × AllAway (class_number class.Comma ∷ []) [] (heads xs)

piece_step : (x : Part) (xs : List Part) → is (class.OpenParen ∷ []) [] x ≡ false → is (class.CloseParen ∷ []) [] x ≡ false
    → piece_end false (x ∷ xs) ≡ (if is (class.Comma ∷ []) [] x then 0 else 1 + piece_end false xs)
piece_step x xs o c =
    ap (λ (b : Bool). if b then 1 + piece_end true xs else if is (class.CloseParen ∷ []) [] x then 1 + piece_end false xs else (if is (class.Comma ∷ []) [] x then 0 else 1 + piece_end false xs)) o
    ∙ ap (λ (b : Bool). if b then 1 + piece_end false xs else (if is (class.Comma ∷ []) [] x then 0 else 1 + piece_end false xs)) c

piece_before : (ys : List Part) (z : Part) (zs : List Part) → Plain ys → is (class.OpenParen ∷ []) [] z ≡ false → is (class.CloseParen ∷ []) [] z ≡ false → is (class.Comma ∷ []) [] z ≡ true
    → piece_end false (ys ++ z ∷ zs) ≡ length ys
unfolding is
piece_before [] z zs w o c m = piece_step z zs o c ∙ ap (λ (b : Bool). if b then 0 else 1 + piece_end false zs) m
piece_before (y ∷ ys) z zs (wo, wc, wm) o c m =
    piece_step y (ys ++ z ∷ zs) wo.0 wc.0
    ∙ ap (λ (b : Bool). if b then 0 else 1 + piece_end false (ys ++ z ∷ zs)) wm.0
    ∙ ap (λ n. 1 + n) (piece_before ys z zs (wo.1, wc.1, wm.1) o c m) ∙ one_suc (length ys)

piece_alone : (ys : List Part) → Plain ys → piece_end false ys ≡ length ys
unfolding is
piece_alone [] w = refl
piece_alone (y ∷ ys) (wo, wc, wm) =
    piece_step y ys wo.0 wc.0
    ∙ ap (λ (b : Bool). if b then 0 else 1 + piece_end false ys) wm.0
    ∙ ap (λ n. 1 + n) (piece_alone ys (wo.1, wc.1, wm.1)) ∙ one_suc (length ys)

take_length : (xs : List Part) → take (length xs) xs ≡ xs
take_length [] = refl
take_length (x ∷ xs) = ap (λ ys. x ∷ ys) (take_length xs)

plain_of : (e : Expression) → avoids (class_number class.OpenParen ∷ []) [] e ≡ true → avoids (class_number class.CloseParen ∷ []) [] e ≡ true → avoids (class_number class.Comma ∷ []) [] e ≡ true
    → (xs : List Part) → Matches e (heads xs) → Plain xs
plain_of e o c m xs h = (all_away (class_number class.OpenParen ∷ []) [] e o (heads xs) h, all_away (class_number class.CloseParen ∷ []) [] e c (heads xs) h, all_away (class_number class.Comma ∷ []) [] e m (heads xs) h)

is_so : (e : Expression) → Stands param (e ∷ []) → (xs : List Part) → Matches e (heads xs) → is_param xs ≡ true
unfolding is_param
is_so e st xs m = st.there xs (all_of e (heads xs) m)

-- a later parameter, with the comma before it
abbrev later : Expression
later = in_order (a class.Comma ∷ param_parts lent_alone ∷ [])

last_piece : (z : Part) (zs p : List Part) → is_param p ≡ true → Plain p → are_params (z ∷ zs) p ≡ true
unfolding are_params
last_piece z zs p ok w =
    ap (λ n. if is_param (take n p) then elim (drop n p) [ [] ↦ true | c ∷ ys ↦ are_params zs ys ] else false) (piece_alone p w)
    ∙ ap (λ ys. if is_param ys then elim (drop (length p) p) [ [] ↦ true | c ∷ ys ↦ are_params zs ys ] else false) (take_length p)
    ∙ ap (λ (b : Bool). if b then elim (drop (length p) p) [ [] ↦ true | c ∷ ys ↦ are_params zs ys ] else false) ok
    ∙ ap (λ us. elim us [ [] ↦ true | c ∷ ys ↦ are_params zs ys ]) (drop_length p)

more_pieces : (z : Part) (zs p : List Part) (c : Part) (rest : List Part) → is_param p ≡ true → Plain p
    → is (class.OpenParen ∷ []) [] c ≡ false → is (class.CloseParen ∷ []) [] c ≡ false → is (class.Comma ∷ []) [] c ≡ true
    → are_params zs rest ≡ true → are_params (z ∷ zs) (p ++ c ∷ rest) ≡ true
unfolding are_params
more_pieces z zs p c rest ok w o k m h =
    ap (λ n. if is_param (take n (p ++ c ∷ rest)) then elim (drop n (p ++ c ∷ rest)) [ [] ↦ true | c ∷ ys ↦ are_params zs ys ] else false) (piece_before p c rest w o k m)
    ∙ ap (λ ys. if is_param ys then elim (drop (length p) (p ++ c ∷ rest)) [ [] ↦ true | c ∷ ys ↦ are_params zs ys ] else false) (take_front p (c ∷ rest))
    ∙ ap (λ (b : Bool). if b then elim (drop (length p) (p ++ c ∷ rest)) [ [] ↦ true | c ∷ ys ↦ are_params zs ys ] else false) ok
    ∙ ap (λ us. elim us [ [] ↦ true | c ∷ ys ↦ are_params zs ys ]) (drop_front p (c ∷ rest))
    ∙ h

-- a comma is no parenthesis
comma_open : (c : Part) → among (class_number class.Comma ∷ []) [] c.head ≡ true → is (class.OpenParen ∷ []) [] c ≡ false
unfolding is class_number
comma_open c h = away_head (class_number class.OpenParen ∷ []) [] (class_number class.Comma ∷ []) [] c.head refl refl h

comma_close : (c : Part) → among (class_number class.Comma ∷ []) [] c.head ≡ true → is (class.CloseParen ∷ []) [] c ≡ false
unfolding is class_number
comma_close c h = away_head (class_number class.CloseParen ∷ []) [] (class_number class.Comma ∷ []) [] c.head refl refl h

comma_is : (c : Part) → among (class_number class.Comma ∷ []) [] c.head ≡ true → is (class.Comma ∷ []) [] c ≡ true
unfolding is
comma_is c h = h

later_plain : (xs : List Part) → Matches (param_parts lent_alone) (heads xs) → Plain xs
unfolding class_number form_number
later_plain xs m = plain_of (param_parts lent_alone) refl refl refl xs m

-- pieces one after the other, where there are enough parts in the first list
pieces_stand : (n : ℕ) (zs p rest : List Part) → is_param p ≡ true → Plain p → Times n (Matches later) (heads rest) → length rest < length zs → are_params zs (p ++ rest) ≡ true
pieces_stand n [] p rest ok w m l = absurd (omega (arith, l))
pieces_stand zero (z ∷ zs) p rest ok w m l = ap (λ ys. are_params (z ∷ zs) (p ++ ys)) (nothing_left rest m) ∙ ap (are_params (z ∷ zs)) (append_nil p) ∙ last_piece z zs p ok w
  where
    append_nil : (xs : List Part) → xs ++ [] ≡ xs
    append_nil [] = refl
    append_nil (x ∷ xs) = ap (λ ys. x ∷ ys) (append_nil xs)
pieces_stand (suc n) (z ∷ zs) p rest ok w m l =
    let r = cut_map rest m.0 m.1 m.2 in
    let q = subst (Matches later) (sym r.3) m.3 in
    let t = subst (Times n (Matches later)) (sym r.4) m.4 in
    let c = cut_one (class_number class.Comma ∷ []) [] (param_parts lent_alone ∷ []) r.0 (opened_alone r.0 q) in
    let v : Matches (param_parts lent_alone) (heads c.1) = whole c.1 c.4 in
    let e : rest ≡ c.0 ∷ (c.1 ++ r.1) = r.2 ∙ ap (λ ys. ys ++ r.1) c.2 in
    let short : length (c.1 ++ r.1) < length (z ∷ zs) = shorter rest c.0 (c.1 ++ r.1) z zs e l in
    ap (λ ys. are_params (z ∷ zs) (p ++ ys)) e
    ∙ more_pieces z zs p c.0 (c.1 ++ r.1) ok w (comma_open c.0 c.3) (comma_close c.0 c.3) (comma_is c.0 c.3)
    (pieces_stand n zs c.1 r.1 (is_so (param_parts lent_alone) alone_param c.1 v) (later_plain c.1 v) t (shorter_still rest c.0 c.1 r.1 z zs e l))
  where
    opened_alone : (xs : List Part) → Matches later (heads xs) → MatchesAll (a class.Comma ∷ param_parts lent_alone ∷ []) (heads xs)
    opened_alone xs m = opened (a class.Comma) (param_parts lent_alone) [] (heads xs) (all_of later (heads xs) m)

    whole : (xs : List Part) → MatchesAll (param_parts lent_alone ∷ []) (heads xs) → Matches (param_parts lent_alone) (heads xs)
    whole xs m = subst (Matches (param_parts lent_alone)) (sym (m.2 ∙ ap (λ us. m.0 ++ us) m.4 ∙ append_none m.0)) m.3
      where
        append_none : (hs : List Head) → hs ++ [] ≡ hs
        append_none [] = refl
        append_none (h ∷ hs) = ap (λ us. h ∷ us) (append_none hs)

    shorter : (rest : List Part) (c : Part) (more : List Part) (z : Part) (zs : List Part) → rest ≡ c ∷ more → length rest < length (z ∷ zs) → length more < length (z ∷ zs)
    shorter rest c more z zs e l = let f = ap length e in omega (arith, f, l)

    shorter_still : (rest : List Part) (c : Part) (us vs : List Part) (z : Part) (zs : List Part) → rest ≡ c ∷ (us ++ vs) → length rest < length (z ∷ zs) → length vs < length zs
    shorter_still rest c us vs z zs e l = let f = ap length e in let g = length-append us vs in omega (arith, f, g, l)

heads_length : (xs : List Part) → length (heads xs) ≡ length xs
heads_length [] = refl
heads_length (x ∷ xs) = ap (λ n. suc n) (heads_length xs)

-- the first parameter, and those behind it
abbrev some_params : Expression → Expression
some_params type = in_order (param_parts type ∷ many later ∷ [])

-- a parameter has a type and a name
abbrev least : Expression → ℕ
least (part cs fs) = 1
least (seq d e) = least d + least e
least (either d e) = if nat_le (least d) (least e) then least d else least e
least _ = 0

at_least : (e : Expression) (hs : List Head) → Matches e hs → least e ≤ length hs
at_least (part cs fs) [] m = absurd m
at_least (part cs fs) (h ∷ hs) m = omega arith
at_least (seq d e) hs m =
    let x = at_least d m.0 m.3 in let y = at_least e m.1 m.4 in let l = ap length m.2 in let g = length-append m.0 m.1 in omega (arith, x, y, l, g)
at_least (either d e) hs (inl m) = let x = at_least d hs m in less_left (least d) (least e) (length hs) x
  where
    less_left : (a b n : ℕ) → a ≤ n → (if nat_le a b then a else b) ≤ n
    less_left a b n h = grind (arith, h)
at_least (either d e) hs (inr m) = let x = at_least e hs m in less_right (least d) (least e) (length hs) x
  where
    less_right : (a b n : ℕ) → b ≤ n → (if nat_le a b then a else b) ≤ n
    less_right a b n h = grind (arith, h)
at_least (stub cs) hs m = omega arith
at_least nothing hs m = omega arith
at_least never hs m = omega arith
at_least (many e) hs m = omega arith

first_params : (type : Expression) → Stands param (param_parts type ∷ []) → ((xs : List Part) → Matches (param_parts type) (heads xs) → Plain xs) → 2 ≤ least (param_parts type)
    → (xs : List Part) → Matches (some_params type) (heads xs) → (zs : List Part) → length xs ≤ length zs → are_params zs xs ≡ true
first_params type st plain two xs m zs l =
    let r = cut_row (param_parts type) (many later ∷ []) xs (opened (param_parts type) (many later) [] (heads xs) (all_of (some_params type) (heads xs) m)) in
    ap (are_params zs) r.2
    ∙ pieces_stand r.4.3.0 zs r.0 r.1 (is_so (param_parts type) st r.0 r.3) (plain r.0 r.3) (times r.1 r.4) (shorter r.0 r.1 r.2 r.3)
  where
    times : (ys : List Part) (w : MatchesAll (many later ∷ []) (heads ys)) → Times w.3.0 (Matches later) (heads ys)
    times ys w = subst (Times w.3.0 (Matches later)) (sym (w.2 ∙ ap (λ us. w.0 ++ us) w.4 ∙ append_none w.0)) w.3.1
      where
        append_none : (hs : List Head) → hs ++ [] ≡ hs
        append_none [] = refl
        append_none (h ∷ hs) = ap (λ us. h ∷ us) (append_none hs)

    shorter : (ys us : List Part) → xs ≡ ys ++ us → Matches (param_parts type) (heads ys) → length us < length zs
    shorter ys us e w =
        let f = ap length e in let g = length-append ys us in
        let p = at_least (param_parts type) (heads ys) w in
        let q = heads_length ys in
        omega (arith, f, g, l, p, q, two)

params_are : (type : Expression) → Stands param (param_parts type ∷ []) → ((xs : List Part) → Matches (param_parts type) (heads xs) → Plain xs) → 2 ≤ least (param_parts type)
    → (xs : List Part) → Matches (params_parts type) (heads xs) → params_stand xs ≡ true
unfolding params_stand is
params_are type st plain two xs (inl e) = ap params_stand (nothing_left xs e)
params_are type st plain two xs (inr (inl v)) = let o = one_part (class_number class.Void ∷ []) [] xs v in ap params_stand o.1 ∙ o.2
params_are type st plain two [] (inr (inr m)) = refl
params_are type st plain two (x ∷ []) (inr (inr m)) = absurd (few (at_least (some_params type) (x.head ∷ []) m))
  where
    few : least (some_params type) ≤ 1 → ⊥
    few l = omega (arith, l, two)
params_are type st plain two (x ∷ y ∷ xs) (inr (inr m)) = first_params type st plain two (x ∷ y ∷ xs) m (x ∷ y ∷ xs) (omega arith)

lent_plain : (xs : List Part) → Matches (param_parts lent) (heads xs) → Plain xs
unfolding class_number form_number
lent_plain xs m = plain_of (param_parts lent) refl refl refl xs m

lent_params : (xs : List Part) → Matches (params_parts lent) (heads xs) → params_stand xs ≡ true
lent_params = params_are lent lent_param lent_plain (omega arith)

alone_params : (xs : List Part) → Matches (params_parts lent_alone) (heads xs) → params_stand xs ≡ true
alone_params = params_are lent_alone alone_param later_plain (omega arith)

-- behind the name
parenthesised : (type : Expression) → avoids (class_number class.CloseParen ∷ []) [] (params_parts type) ≡ true → ((xs : List Part) → Matches (params_parts type) (heads xs) → params_stand xs ≡ true)
    → (t : Title) → Stands (function_params t) (params_parts type ∷ a class.CloseParen ∷ maybe bases ∷ body_rows)
unfolding function_params
parenthesised type h all t = up_to_stands class.CloseParen (params_parts type) _ _ h (λ ps m. record {
  there = λ xs w.
      ap (λ (b : Bool). is_some (if b then function_end t ps xs else None)) (all ps m) ∙ (end_stands t ps).there xs w;
})

abbrev behind_name : Expression → List Expression
behind_name type = params_parts type ∷ a class.CloseParen ∷ maybe bases ∷ body_rows

named_function : (type : Expression) → ((t : Title) → Stands (function_params t) (behind_name type)) → (ws : List Part) (t : Option Typed) (s : Option Part) (d : Bool)
    → Stands (function_named ws t s d) (name ∷ a class.OpenParen ∷ behind_name type)
unfolding function_named class_number form_number
named_function type st ws t s d = must_stands names [] _ _ _ _ refl refl (λ n. sign_stands _ _ _ _ refl (st (record { words = ws; result = t; scope = s; destructor = d; name = n })))

titled_function : (type : Expression) → ((t : Title) → Stands (function_params t) (behind_name type)) → (ws : List Part) (t : Option Typed)
    → Stands (function_typed ws t) (title_rows (behind_name type))
unfolding function_typed class_number form_number
titled_function type st ws t = scoped_stands (λ s. let d = may (class.Tilde ∷ []) s.1 in function_named ws t s.0 d.0 d.1) (behind_name type)
    (λ o. may_stands (class.Tilde ∷ []) _ (λ d. function_named ws t o d.0 d.1) _ refl refl (λ d. named_function type st ws t o d))

typed_function : (ws : List Part) → Stands (function_worded ws) (pointed_alone ∷ title_rows (behind_name lent))
unfolding function_worded class_number form_number
typed_function ws = pointed_typed (λ t. function_typed ws t.0 t.1) _ refl refl refl (λ o. titled_function lent (parenthesised lent refl lent_params) ws o)

untyped_function : (ws : List Part) → Stands (function_worded ws) (title_rows (behind_name lent_alone))
unfolding function_worded class_number form_number
untyped_function ws = untyped_stands (λ t. function_typed ws t.0 t.1) (behind_name lent_alone) (titled_function lent_alone (parenthesised lent_alone refl alone_params) ws None)

-- a row of rows, its last one not taken apart
spread : {B : Type 0} (k : List Part → Option B) (type : Expression) → Stands k (title_rows (behind_name type)) → Stands k (function_behind_type type ∷ [])
spread k type st = flat_stands k (function_behind_type type) [] (record { there = λ xs m. st.there xs m })

pub function_total : Stands function (function_parts ∷ [])
unfolding function class_number form_number
function_total = seq_stands _ _ _ _ (run_stands function_words _ (λ p. function_worded p.0 p.1) _ refl refl (λ ws.
    either_stands _ _ _ _
    (seq_stands _ _ _ _ (behind_stands _ _ _ _ (typed_function ws)))
    (spread _ lent_alone (untyped_function ws))))
