-- The named parts of functions are what they are named.
use Rattle.std.proofs.Common.{◌≡◌, ℕ, Bool, true, false, ◌&&◌, List, [], ◌∷◌, ◌++◌, map, take, drop, length, Option, Some, None, refl, sym, ap, subst, ◌∙◌, inl, inr, if◌then◌else◌, append-nil}
use Rattle.std.specs.Prelude.{option_map}
use Rattle.mql_forms.specs.Numbers.{form_number}
use Rattle.mql_forms.specs.declared.form.Form.TheVariants as form
use Rattle.mql_grammar.specs.Expression.{Expression, part, nothing, either, many, among, Matches}
use Rattle.mql_grammar.specs.Expressions.{a, a_token, a_node, expr, args, maybe, in_order, one_of, list_of, name as name_parts, dims, given, stars as star_parts, lent, lent_alone, pointed_alone, scoped as scoped_parts, base, param as param_parts, params as params_parts, function_behind_type, function as function_parts}
use Rattle.mql_grammar.specs.Numbers.{class_number}
use Rattle.mql_grammar.specs.declared.token_class.Class.{Class}
use Rattle.mql_grammar.specs.declared.token_class.Class.TheVariants as class
use Rattle.mql_grammar.proofs.Derivatives.{MatchesAll, firsts_all, nullable_all, all_empty}
use Rattle.mql_tree.specs.declared.token.Span.{Span}
use Rattle.mql_tree.specs.declared.token.Token.{Token}
use Rattle.mql_views.specs.Cuts.{on, is, until, split, must, last, sign, ended, may}
use Rattle.mql_views.specs.Laws.{heads}
use Rattle.mql_views.specs.Parts.{Part}
use Rattle.mql_views.specs.Values.{Call, call, stars}
use Rattle.mql_views.specs.Declarations.{Typed, Title, Param, Body, Block, Declared, Pure, Function, function_words, type_words, type_forms as grammar_forms, references, is_typed, typed_front, typed, scoped, preset_of, param_end, param_typed, param, params_stand, bases_cut, lone_body, body_of, function_end, function_params, function_named, function_typed, function_worded, function}
use Rattle.mql_views.proofs.Stands.{within, inside_head, avoids, all_away, edges_away, edges_within, single, flat, flattened, opened, all_of, cut_one, cut_row, cut_single, one_part, first_away, front_away, front_within, may_none, nothing_left}
use Rattle.mql_views.proofs.DeclarationForms.{until_is}
use Rattle.mql_views.proofs.FunctionForms.{function_total}
use Rattle.mql_syntax.specs.Lists.{pieces, pieces_from}
use Rattle.mql_syntax.specs.Values.{items}
use Rattle.mql_syntax.specs.Variables.{sizes_from}
use Rattle.mql_syntax_total.specs.Formed.{Every, IsFormed}
use Rattle.mql_syntax_total.proofs.Gives.{false_true, Held, Has, Where, every_take, every_drop, Among, Gives, held_map, held_on, has_map, has_where, sign_gives, must_gives, next_gives, last_gives, may_gives, may_so_gives, may_not_gives, maybe_gives, either_gives, flat_gives, seq_gives, cons_gives, map_gives, up_to_gives, lone_gives, run_gives, and_false}
use Rattle.mql_syntax_total.proofs.Pieces.{Calm, calm_join, calm_of, calm_enclosed, pieces_are}
use Rattle.mql_syntax_total.proofs.Types.{type_cs, type_fs, TypePart, TypeGood, among_more}
use Rattle.mql_syntax_total.proofs.Values.{value_cs, value_fs, name_cs, ValuePart, items_good}
use Rattle.mql_syntax_total.proofs.Variables.{If, NamePart, scoped_none, scoped_gives, dims_good, until_all, take_length, drop_length}
use Rattle.mql_syntax_total.proofs.Statements.{StatementPart, statement_fs}

abbrev behind_types : List Class
behind_types = class.Tilde ∷ stars ++ (class.Name ∷ class.TypeName ∷ [])

-- a type before a name
typed_is : (t s : Part) (us : List Part) → is type_words grammar_forms t ≡ true → is behind_types [] s ≡ true → typed (t ∷ s ∷ us) ≡ (Some (record { type = t; pointer = (may stars (s ∷ us)).0 }), (may stars (s ∷ us)).1)
unfolding typed is_typed typed_front
typed_is t s us h i =
    ap (λ (b : Bool). if b && is behind_types [] s then typed_front (t ∷ s ∷ us) else (None, t ∷ s ∷ us)) h
    ∙ ap (λ (b : Bool). if b then typed_front (t ∷ s ∷ us) else (None, t ∷ s ∷ us)) i

pub typed_not : (xs : List Part) → is_typed xs ≡ false → typed xs ≡ (None, xs)
unfolding typed
typed_not xs h = ap (λ (b : Bool). if b then typed_front xs else (None, xs)) h

typed_gives : {B : Type 0} {N : Type 0} {G : Part → Type 0} {Q : B → Type 0} (k : Option Typed × List Part → Option B) (ds gs ss : List ℕ) (es : List Expression)
    → within ds (map class_number type_words) ≡ true → within gs (map form_number grammar_forms) ≡ true → within ss (map class_number stars) ≡ true
    → edges_away (map class_number stars) [] (firsts_all es) ≡ true → edges_within (map class_number behind_types) [] (firsts_all es) ≡ true → nullable_all es ≡ false
    → ((t : Part) (b : Bool) → Among ds gs t → G t → Gives N G Q (λ zs. k (Some (record { type = t; pointer = b }), zs)) es)
    → Gives N G Q (λ xs. k (typed xs)) (part ds gs ∷ either nothing (part ss []) ∷ es)
unfolding is may class_number form_number
typed_gives {N = N} {G = G} {Q = Q} k ds gs ss es h i j away near n st = record {
  there = λ xs m g.
      let r = cut_one ds gs (either nothing (part ss []) ∷ es) xs m in
      let own = subst (Every G) r.2 g in
      subst (Held N Q) (sym (ap (λ xs. k (typed xs)) r.2)) (go r.0 r.1 r.3 own.0 r.4 own.1);
}
  where
    star_behind : (s : Part) → among ss [] s.head ≡ true → among (map class_number behind_types) [] s.head ≡ true
    star_behind s f = inside_head (47 ∷ 50 ∷ 51 ∷ 0 ∷ 1 ∷ []) [] (50 ∷ 51 ∷ []) [] s.head refl refl (inside_head (50 ∷ 51 ∷ []) [] ss [] s.head j refl f)

    plain : (t : Part) (zs : List Part) → Among ds gs t → G t → MatchesAll es (heads zs) → Every G zs → Held N Q (k (typed (t ∷ zs)))
    plain t [] v w m g = false_true (sym n ∙ all_empty es m)
    plain t (s ∷ us) v w m g =
        subst (Held N Q) (sym (ap (λ p. k p) (typed_is t s us (inside_head (map class_number type_words) (map form_number grammar_forms) ds gs t.head h i v) (front_within behind_types [] es near s us m)
        ∙ ap (λ (p : Bool × List Part). (Some (record { type = t; pointer = p.0 }), p.1)) (may_none stars es away (s ∷ us) m))))
        ((st t false v w).there (s ∷ us) m g)

    go : (t : Part) (zs : List Part) → Among ds gs t → G t → MatchesAll (either nothing (part ss []) ∷ es) (heads zs) → Every G zs → Held N Q (k (typed (t ∷ zs)))
    go t zs v w (us, vs, e, inl x, m) g = plain t zs v w (flattened nothing es (heads zs) (us, vs, e, x, m)) g
    go t zs v w (us, vs, e, inr x, m) g =
        let s = cut_one ss [] es zs (us, vs, e, x, m) in
        subst (Held N Q) (sym (ap (λ zs. k (typed (t ∷ zs))) s.2 ∙ ap (λ p. k p) (typed_is t s.0 s.1 (inside_head (map class_number type_words) (map form_number grammar_forms) ds gs t.head h i v) (star_behind s.0 s.3)
        ∙ ap (λ (b : Bool). let p : Bool × List Part = (if b then (true, s.1) else (false, s.0 ∷ s.1)) in (Some (record { type = t; pointer = p.0 }), p.1)) (inside_head (map class_number stars) [] ss [] s.0.head j refl s.3))))
        ((st t true v w).there s.1 s.4 (subst (Every G) s.2 g).1)

-- a type, which is a name's or a simple one
pub pointed_typed : {B : Type 0} {N : Type 0} {G : Part → Type 0} {Q : B → Type 0} (k : Option Typed × List Part → Option B) (es : List Expression)
    → edges_away (map class_number stars) [] (firsts_all es) ≡ true → edges_within (map class_number behind_types) [] (firsts_all es) ≡ true → nullable_all es ≡ false
    → ((t : Part) (b : Bool) → Among type_cs type_fs t → G t → Gives N G Q (λ zs. k (Some (record { type = t; pointer = b }), zs)) es)
    → Gives N G Q (λ xs. k (typed xs)) (pointed_alone ∷ es)
unfolding class_number form_number
pointed_typed k es away near n st = either_gives _ _ _ _
    (seq_gives _ _ _ _ (typed_gives k _ _ _ es refl refl refl away near n (λ t b v g. st t b (among_more type_cs type_fs (1 ∷ []) (4 ∷ []) t refl refl v) g)))
    (seq_gives _ _ _ _ (typed_gives k _ _ _ es refl refl refl away near n (λ t b v g. st t b (among_more type_cs type_fs (2 ∷ 3 ∷ []) [] t refl refl v) g)))

-- no type: it begins otherwise, or what is behind is not behind a type
first_no_type : (es : List Expression) → edges_away (map class_number type_words) (map form_number grammar_forms) (firsts_all es) ≡ true → (xs : List Part) → MatchesAll es (heads xs) → is_typed xs ≡ false
unfolding is_typed is
first_no_type es d [] m = refl
first_no_type es d (x ∷ []) m = refl
first_no_type es d (x ∷ y ∷ xs) m = ap (λ (b : Bool). b && is behind_types [] y) (first_away (map class_number type_words) (map form_number grammar_forms) es d x.head (heads (y ∷ xs)) m)

second_no_type : (e : Expression) (es : List Expression) → single e ≡ true → edges_away (map class_number behind_types) [] (firsts_all es) ≡ true → (xs : List Part) → MatchesAll (e ∷ es) (heads xs) → is_typed xs ≡ false
unfolding is_typed
second_no_type e es h d xs m = let r = cut_single e es h xs m in ap is_typed r.2 ∙ go r.0 r.1 r.3
  where
    go : (y : Part) (zs : List Part) → MatchesAll es (heads zs) → is_typed (y ∷ zs) ≡ false
    go y [] m = refl
    go y (z ∷ zs) m = ap (λ (b : Bool). is type_words grammar_forms y && b) (front_away behind_types es d z zs m) ∙ and_false (is type_words grammar_forms y)

-- what stands before the parentheses, without a type
abbrev plain_rows : List Expression → List Expression
plain_rows more = maybe (a class.Tilde) ∷ name_parts ∷ a class.OpenParen ∷ more

abbrev title_rows : List Expression → List Expression
title_rows more = scoped_parts ∷ plain_rows more

plain_no_type : (more : List Expression) (xs : List Part) → MatchesAll (plain_rows more) (heads xs) → is_typed xs ≡ false
unfolding class_number form_number
plain_no_type more xs (us, vs, e, inl x, m) = second_no_type name_parts (a class.OpenParen ∷ more) refl refl xs (flattened nothing (name_parts ∷ a class.OpenParen ∷ more) (heads xs) (us, vs, e, x, m))
plain_no_type more xs (us, vs, e, inr x, m) = first_no_type (a class.Tilde ∷ name_parts ∷ a class.OpenParen ∷ more) refl xs (us, vs, e, x, m)

no_type : (more : List Expression) (xs : List Part) → MatchesAll (title_rows more) (heads xs) → is_typed xs ≡ false
unfolding class_number form_number
no_type more xs (us, vs, e, inl x, m) = plain_no_type more xs (flattened nothing (plain_rows more) (heads xs) (us, vs, e, x, m))
no_type more xs (us, vs, e, inr x, m) = second_no_type name_parts (a class.DoubleColon ∷ plain_rows more) refl refl xs (opened name_parts (a class.DoubleColon) (plain_rows more) (heads xs) (us, vs, e, x, m))

-- no class before the name
plain_no_colons : (more : List Expression) (xs : List Part) → MatchesAll (plain_rows more) (heads xs) → scoped xs ≡ (None, xs)
unfolding class_number form_number
plain_no_colons more xs (us, vs, e, inl x, m) = scoped_none (0 ∷ 1 ∷ []) [] (a class.OpenParen ∷ more) refl xs (flattened nothing (name_parts ∷ a class.OpenParen ∷ more) (heads xs) (us, vs, e, x, m))
plain_no_colons more xs (us, vs, e, inr x, m) = scoped_none (47 ∷ []) [] (name_parts ∷ a class.OpenParen ∷ more) refl xs (us, vs, e, x, m)

module _ (tokens : List (Token × Span)) (n : ℕ) where
  abbrev Good : Part → Type 0
  Good p = IsFormed tokens n p

  -- parameters
  pub record ParamGood (p : Param) : Type 0 where
    pub typed : TypeGood tokens n p.typed
    pub named : NamePart tokens n p.name
    pub sizes : Every (If (ValuePart tokens n)) (sizes_from None p.dimensions)
    pub preset : If (ValuePart tokens n) p.preset

  pub preset_some : Gives ⊥ Good (If (ValuePart tokens n)) preset_of (a class.Assign ∷ expr ∷ [])
  unfolding preset_of class_number form_number
  preset_some = cons_gives preset_of (λ xs. on (sign (class.Assign ∷ []) xs) (λ ys. option_map (λ v. Some v) (last ys))) _ refl (λ x xs. refl)
      (sign_gives _ _ _ _ refl (last_gives value_cs value_fs expr _ refl refl (λ v w g. (g, w))))

  pub given_cut : (xs : List Part) → MatchesAll (dims ∷ given ∷ []) (heads xs) → Every Good xs
      → (k : ℕ) × (until (class.Assign ∷ []) [] xs ≡ k) × Every (If (ValuePart tokens n)) (sizes_from None (take k xs)) × Has (If (ValuePart tokens n)) (preset_of (drop k xs))
  unfolding preset_of class_number form_number
  given_cut xs (us, vs, e, d, (ws, zs, f, inl x, y)) g =
      let mine : Matches dims (heads xs) = subst (Matches dims) (sym (e ∙ ap (λ hs. us ++ hs) (f ∙ ap (λ hs. hs ++ zs) x ∙ y) ∙ append-nil us)) d in (
        length xs,
        until_all (class.Assign ∷ []) xs (all_away (66 ∷ []) [] dims refl (heads xs) mine),
        subst (λ ys. Every (If (ValuePart tokens n)) (sizes_from None ys)) (sym (take_length xs)) (dims_good tokens n xs mine g),
        subst (λ ys. Has (If (ValuePart tokens n)) (preset_of ys)) (sym (drop_length xs)) tt,
      )
  given_cut xs (us, vs, e, d, (ws, zs, f, inr x, y)) g =
      let u = until_is (class.Assign ∷ []) [] dims (in_order (a class.Assign ∷ expr ∷ []) ∷ []) refl refl refl xs (us, vs, e, d, (ws, zs, f, x, y)) in
      let k = until (class.Assign ∷ []) [] xs in (
        k,
        refl,
        subst (λ ys. Every (If (ValuePart tokens n)) (sizes_from None ys)) (sym u.2) (dims_good tokens n u.0 u.4 (subst (Every Good) u.2 (every_take Good k xs g))),
        subst (λ ys. Has (If (ValuePart tokens n)) (preset_of ys)) (sym u.3) (preset_some.there u.1 (flattened (in_order (a class.Assign ∷ expr ∷ [])) [] (heads u.1) u.5) (subst (Every Good) u.3 (every_drop Good k xs g))),
      )

  param_end_gives : (c : Bool) (t : Typed) (r : Bool) (x : Part) → TypeGood tokens n t → NamePart tokens n x → Gives ⊥ Good ParamGood (param_end c t r x) (dims ∷ given ∷ [])
  unfolding param_end
  param_end_gives c t r x ht hx = record {
    there = λ xs m g.
        let u = given_cut xs m g in
        subst (λ k. Has ParamGood (option_map (λ e. record { constant = c; typed = t; reference = r; name = x; dimensions = take k xs; preset = e }) (preset_of (drop k xs)))) (sym u.1)
        (has_map ParamGood _ (preset_of (drop u.0 xs)) (lift u.0 xs u.2 (preset_of (drop u.0 xs)) u.3));
  }
    where
      lift : (k : ℕ) (xs : List Part) → Every (If (ValuePart tokens n)) (sizes_from None (take k xs)) → (o : Option (Option Part)) → Has (If (ValuePart tokens n)) o
          → Has (λ e. ParamGood (record { constant = c; typed = t; reference = r; name = x; dimensions = take k xs; preset = e })) o
      lift k xs d None h = absurd h
      lift k xs d (Some e) h = record { typed = ht; named = hx; sizes = d; preset = h }

  abbrev param_rows : List Expression
  param_rows = name_parts ∷ dims ∷ given ∷ []

  -- behind a type: nothing, `*`, `&`, or both
  abbrev referred : Bool → Part → Bool → Bool × List Part → Option Param
  referred c t p r = on (must (class.Name ∷ class.TypeName ∷ []) [] r.1) (λ n. param_end c (record { type = t; pointer = p }) r.0 n.0 n.1)

  abbrev starred : Bool → Part → Bool × List Part → Option Param
  starred c t p = referred c t p.0 (may references p.1)

  named_gives : (c : Bool) (t : Part) (p r : Bool) → TypePart tokens n t → Gives ⊥ Good ParamGood (λ zs. referred c t p (r, zs)) param_rows
  unfolding class_number form_number
  named_gives c t p r h = must_gives (class.Name ∷ class.TypeName ∷ []) [] _ _ _ _ refl refl (λ x v g. param_end_gives c (record { type = t; pointer = p }) r x h (g, v))

  referred_gives : (c : Bool) (t : Part) (p : Bool) (ds : List ℕ) → TypePart tokens n t → within ds (map class_number references) ≡ true → Gives ⊥ Good ParamGood (λ zs. referred c t p (may references zs)) (either nothing (part ds []) ∷ param_rows)
  unfolding class_number form_number
  referred_gives c t p ds h i = may_gives references ds (referred c t p) param_rows i refl (λ r. named_gives c t p r h)

  simple_lent_gives : (c : Bool) (t : Part) → TypePart tokens n t → Gives ⊥ Good ParamGood (param_typed c t) (maybe (a class.Star) ∷ maybe (a class.Ampersand) ∷ param_rows)
  unfolding param_typed class_number form_number
  simple_lent_gives c t h = may_gives stars _ (starred c t) _ refl refl (λ p. referred_gives c t p _ h refl)

  alone_lent_gives : (c : Bool) (t : Part) → TypePart tokens n t → Gives ⊥ Good ParamGood (param_typed c t) (maybe star_parts ∷ maybe (a_token (class.Reference ∷ class.Ampersand ∷ [])) ∷ param_rows)
  unfolding param_typed class_number form_number
  alone_lent_gives c t h = may_gives stars _ (starred c t) _ refl refl (λ p. referred_gives c t p _ h refl)

  abbrev lent_choice : Expression
  lent_choice = one_of (in_order (a class.PointerStar ∷ maybe (a class.Ampersand) ∷ []) ∷ a class.Reference ∷ [])

  lent_gives : (c : Bool) (t : Part) → TypePart tokens n t → Gives ⊥ Good ParamGood (param_typed c t) (maybe lent_choice ∷ param_rows)
  unfolding param_typed class_number form_number
  lent_gives c t h = maybe_gives _ _ _ (may_not_gives stars (starred c t) _ refl (may_not_gives references (referred c t false) _ refl (named_gives c t false false h)))
      (either_gives _ _ _ _
      (flat_gives _ _ _ (may_so_gives stars _ (starred c t) _ refl (referred_gives c t true _ h refl)))
      (flat_gives _ _ _ (may_not_gives stars (starred c t) _ refl (may_so_gives references _ (referred c t false) _ refl (named_gives c t false true h)))))

  abbrev behind_const : Bool × List Part → Option Param
  behind_const c = on (must type_words grammar_forms c.1) (λ t. param_typed c.0 t.0 t.1)

  lent_typed : (c : Bool) → Gives ⊥ Good ParamGood (λ zs. behind_const (c, zs)) (lent ∷ param_rows)
  unfolding class_number form_number
  lent_typed c = either_gives _ _ _ _
      (flat_gives _ _ _ (must_gives _ _ _ _ _ _ refl refl (λ t v g. lent_gives c t (g, among_more type_cs type_fs (1 ∷ []) (4 ∷ []) t refl refl v))))
      (flat_gives _ _ _ (must_gives _ _ _ _ _ _ refl refl (λ t v g. simple_lent_gives c t (g, among_more type_cs type_fs (2 ∷ 3 ∷ []) [] t refl refl v))))

  alone_typed : (c : Bool) → Gives ⊥ Good ParamGood (λ zs. behind_const (c, zs)) (lent_alone ∷ param_rows)
  unfolding class_number form_number
  alone_typed c = either_gives _ _ _ _
      (flat_gives _ _ _ (must_gives _ _ _ _ _ _ refl refl (λ t v g. alone_lent_gives c t (g, among_more type_cs type_fs (1 ∷ []) (4 ∷ []) t refl refl v))))
      (flat_gives _ _ _ (must_gives _ _ _ _ _ _ refl refl (λ t v g. simple_lent_gives c t (g, among_more type_cs type_fs (2 ∷ 3 ∷ []) [] t refl refl v))))

  lent_param : Gives ⊥ Good ParamGood param (param_parts lent ∷ [])
  unfolding param class_number form_number
  lent_param = flat_gives _ _ _ (may_gives _ _ behind_const _ refl refl lent_typed)

  alone_param : Gives ⊥ Good ParamGood param (param_parts lent_alone ∷ [])
  unfolding param class_number form_number
  alone_param = flat_gives _ _ _ (may_gives _ _ behind_const _ refl refl alone_typed)

  -- the parameters between parentheses: `void` is none
  abbrev pub ParamPiece : List Part → Type 0
  ParamPiece ys = Has ParamGood (param ys)

  abbrev pub written : List Part → List Part
  written [] = []
  written (v ∷ []) = []
  written (v ∷ w ∷ xs) = v ∷ w ∷ xs

  written_good : (P : List Part → Type 0) (ps : List Part) → Every P (pieces ps) → Every P (pieces (written ps))
  unfolding pieces_from
  written_good P [] g = g
  written_good P (v ∷ []) g = tt
  written_good P (v ∷ w ∷ xs) g = g

  abbrev later : Expression
  later = in_order (a class.Comma ∷ param_parts lent_alone ∷ [])

  params_good : (type : Expression) → Gives ⊥ Good ParamGood param (param_parts type ∷ []) → ((ys : List Part) → Matches (param_parts type) (heads ys) → Calm ys)
      → (ps : List Part) → Matches (params_parts type) (heads ps) → Every Good ps → Every ParamPiece (pieces (written ps))
  unfolding class_number form_number pieces_from
  params_good type st calm ps (inl e) g = subst (λ ps. Every ParamPiece (pieces (written ps))) (sym (nothing_left ps e)) tt
  params_good type st calm ps (inr (inl v)) g = let o = one_part (3 ∷ []) [] ps v in subst (λ ps. Every ParamPiece (pieces (written ps))) (sym o.1) tt
  params_good type st calm ps (inr (inr m)) g =
      written_good ParamPiece ps
      (pieces_are Good ParamPiece (param_parts type) (param_parts lent_alone) calm (calm_of (param_parts lent_alone) refl refl refl)
      (λ ys m g. st.there ys (all_of (param_parts type) (heads ys) m) g) (λ ys m g. alone_param.there ys (all_of (param_parts lent_alone) (heads ys) m) g) ps
      (opened (param_parts type) (many later) [] (heads ps) (all_of (in_order (param_parts type ∷ many later ∷ [])) (heads ps) m)) g)

  -- constructors of parents and members
  abbrev pub CallGood : Call → Type 0
  CallGood c = NamePart tokens n c.callee × Every (ValuePart tokens n) (items c.arguments)

  abbrev pub BasePiece : List Part → Type 0
  BasePiece ys = Has CallGood (call ys)

  base_gives : Gives ⊥ Good CallGood call (flat base [])
  unfolding call class_number form_number
  base_gives = next_gives name_cs [] _ _ _ refl refl (λ x v g. sign_gives _ _ _ _ refl (map_gives _ _ _ (lone_gives class.CloseParen (maybe args) refl (λ ys m e. ((g, v), items_good tokens n (maybe args) refl ys m e)))))

  calm_base : (ys : List Part) → Matches base (heads ys) → Calm ys
  unfolding class_number form_number
  calm_base ys m =
      let rows = opened name_parts (in_order (a class.OpenParen ∷ maybe args ∷ a class.CloseParen ∷ [])) [] (heads ys) (all_of base (heads ys) m) in
      let r = cut_row name_parts (in_order (a class.OpenParen ∷ maybe args ∷ a class.CloseParen ∷ []) ∷ []) ys rows in
      subst Calm (sym r.2) (calm_join r.0 r.1 (calm_of name_parts refl refl refl r.0 r.3) (calm_enclosed (maybe args) refl r.1 (flattened (in_order (a class.OpenParen ∷ maybe args ∷ a class.CloseParen ∷ [])) [] (heads r.1) r.4)))

  bases_good : (ys : List Part) → Matches (list_of base) (heads ys) → Every Good ys → Every BasePiece (pieces ys)
  bases_good ys m g =
      pieces_are Good BasePiece base base calm_base calm_base base_piece base_piece ys
      (opened base (many (in_order (a class.Comma ∷ base ∷ []))) [] (heads ys) (all_of (list_of base) (heads ys) m)) g
    where
      base_piece : (ys : List Part) → Matches base (heads ys) → Every Good ys → BasePiece ys
      base_piece ys m g = base_gives.there ys (flattened base [] (heads ys) (all_of base (heads ys) m)) g

  -- a function
  abbrev pub BodyGood : Body → Type 0
  BodyGood (Block b) = StatementPart tokens n b
  BodyGood Declared = Unit {0}
  BodyGood Pure = Unit {0}

  pub record FunctionGood (f : Function) : Type 0 where
    pub result : If (TypeGood tokens n) f.result
    pub scope : If (NamePart tokens n) f.scope
    pub named : NamePart tokens n f.name
    pub params : Every ParamPiece (pieces (written f.params))
    pub bases : Every BasePiece (pieces f.bases)
    pub body : BodyGood f.body

  pub record TitleGood (t : Title) : Type 0 where
    pub result : If (TypeGood tokens n) t.result
    pub scope : If (NamePart tokens n) t.scope
    pub named : NamePart tokens n t.name

  pub where_if : {B : Type 0} (Q : B → Type 0) (b : Bool) (o : Option B) → (b ≡ true → Where Q o) → Where Q (if b then o else None)
  where_if Q true o q = q refl
  where_if Q false o q = tt

  where_else : {B : Type 0} (Q : B → Type 0) (b : Bool) (x : B) (o : Option B) → (b ≡ true → Q x) → Where Q o → Where Q (if b then Some x else o)
  where_else Q true x o q r = q refl
  where_else Q false x o q r = r

  lone_where : (b : Part) → Good b → Where BodyGood (lone_body b)
  unfolding lone_body is class_number form_number
  lone_where b g = where_else BodyGood (is [] (form.Block ∷ []) b) (Block b) (if is (class.Semicolon ∷ []) [] b then Some Declared else None)
      (λ e. (g, among_more [] statement_fs [] (9 ∷ []) b refl refl e)) (where_else BodyGood (is (class.Semicolon ∷ []) [] b) Declared None (λ e. tt) tt)

  body_where : (xs : List Part) → Every Good xs → Where BodyGood (body_of xs)
  unfolding body_of
  body_where [] g = tt
  body_where (b ∷ []) g = lone_where b g.0
  body_where (e ∷ z ∷ xs) g =
      held_on (Unit {0}) (λ x. Unit {0}) BodyGood (sign (class.Assign ∷ []) (e ∷ z ∷ xs)) _ (any (sign (class.Assign ∷ []) (e ∷ z ∷ xs))) (λ ys _.
      held_on (Unit {0}) (λ x. Unit {0}) BodyGood (sign (class.Zero ∷ []) ys) _ (any (sign (class.Zero ∷ []) ys)) (λ zs _.
      held_on (Unit {0}) (λ x. Unit {0}) BodyGood (sign (class.Semicolon ∷ []) zs) _ (any (sign (class.Semicolon ∷ []) zs)) (λ us _. pure_where us)))
    where
      any : {B : Type 0} (o : Option B) → Where (λ x. Unit {0}) o
      any None = tt
      any (Some x) = tt

      pure_where : (us : List Part) → Where BodyGood (ended Pure us)
      pure_where [] = tt
      pure_where (u ∷ us) = tt

  may_every : (cs : List Class) (xs : List Part) → Every Good xs → Every Good (may cs xs).1
  unfolding may
  may_every cs [] g = tt
  may_every cs (x ∷ xs) g = go (is cs [] x)
    where
      go : (b : Bool) → Every Good (let p : Bool × List Part = (if b then (true, xs) else (false, x ∷ xs)) in p.1)
      go true = g.1
      go false = g

  -- behind the parentheses, where the bases are good
  end_where : (t : Title) (ps xs : List Part) → TitleGood t → Every ParamPiece (pieces (written ps)) → Every BasePiece (pieces (bases_cut xs).0) → Every Good (bases_cut xs).1 → Where FunctionGood (function_end t ps xs)
  unfolding function_end
  end_where t ps xs ht hp hb g =
      held_map (Unit {0}) FunctionGood _ (body_of (may (class.Override ∷ []) (bases_cut xs).1).1)
      (lift (body_of (may (class.Override ∷ []) (bases_cut xs).1).1) (body_where (may (class.Override ∷ []) (bases_cut xs).1).1 (may_every (class.Override ∷ []) (bases_cut xs).1 g)))
    where
      lift : (o : Option Body) → Where BodyGood o → Where (λ body. FunctionGood (record {
        words = t.words;
        result = t.result;
        scope = t.scope;
        destructor = t.destructor;
        name = t.name;
        params = ps;
        bases = (bases_cut xs).0;
        overrides = (may (class.Override ∷ []) (bases_cut xs).1).0;
        body = body;
      })) o
      lift None h = tt
      lift (Some b) h = record { result = ht.result; scope = ht.scope; named = ht.named; params = hp; bases = hb; body = h }

  -- bases
  abbrev base_rows : Expression
  base_rows = in_order (a class.Colon ∷ list_of base ∷ [])

  abbrev bodies : Expression
  bodies = one_of (a_node form.Block ∷ a class.Semicolon ∷ in_order (a class.Assign ∷ a class.Zero ∷ a class.Semicolon ∷ []) ∷ [])

  abbrev body_rows : List Expression
  body_rows = maybe (a class.Override) ∷ bodies ∷ []

  pub no_bases : (es : List Expression) → edges_away (class_number class.Colon ∷ []) [] (firsts_all es) ≡ true → (xs : List Part) → MatchesAll es (heads xs) → bases_cut xs ≡ ([], xs)
  unfolding bases_cut
  no_bases es d [] m = refl
  no_bases es d (x ∷ xs) m = ap (λ (b : Bool). if b then split (until (class.Override ∷ class.Semicolon ∷ class.Assign ∷ []) (form.Block ∷ []) xs) xs else ([], x ∷ xs)) (front_away (class.Colon ∷ []) es d x xs m)

  pub without_bases : (es : List Expression) → edges_away (class_number class.Colon ∷ []) [] (firsts_all es) ≡ true → (t : Title) (ps : List Part) → TitleGood t → Every ParamPiece (pieces (written ps))
      → Gives (Unit {0}) Good FunctionGood (function_end t ps) es
  unfolding pieces_from
  without_bases es d t ps ht hp = record {
    there = λ xs m g.
        let e = no_bases es d xs m in
        end_where t ps xs ht hp (subst (λ p. Every BasePiece (pieces p.0)) (sym e) tt) (subst (λ p. Every Good p.1) (sym e) g);
  }

  with_bases : (t : Title) (ps : List Part) → TitleGood t → Every ParamPiece (pieces (written ps)) → Gives (Unit {0}) Good FunctionGood (function_end t ps) (base_rows ∷ body_rows)
  unfolding bases_cut is class_number form_number
  with_bases t ps ht hp = seq_gives _ _ _ _ (record {
    there = λ xs m g.
        let r = cut_one (44 ∷ []) [] (list_of base ∷ body_rows) xs m in
        let own = (subst (Every Good) r.2 g).1 in
        let u = until_is (class.Override ∷ class.Semicolon ∷ class.Assign ∷ []) (form.Block ∷ []) (list_of base) body_rows refl refl refl r.1 r.4 in
        let k = until (class.Override ∷ class.Semicolon ∷ class.Assign ∷ []) (form.Block ∷ []) r.1 in
        let e : bases_cut xs ≡ (u.0, u.1) = ap bases_cut r.2 ∙ ap (λ (b : Bool). if b then split k r.1 else ([], r.0 ∷ r.1)) r.3 ∙ (λ i. (u.2 i, u.3 i)) in
        end_where t ps xs ht hp
        (subst (λ p. Every BasePiece (pieces p.0)) (sym e) (bases_good u.0 u.4 (subst (Every Good) u.2 (every_take Good k r.1 own))))
        (subst (λ p. Every Good p.1) (sym e) (subst (Every Good) u.3 (every_drop Good k r.1 own)));
  })

  end_gives : (t : Title) (ps : List Part) → TitleGood t → Every ParamPiece (pieces (written ps)) → Gives (Unit {0}) Good FunctionGood (function_end t ps) (maybe base_rows ∷ body_rows)
  unfolding class_number form_number
  end_gives t ps ht hp = either_gives _ _ _ _ (flat_gives _ _ _ (without_bases body_rows refl t ps ht hp)) (with_bases t ps ht hp)

  -- the parameters, and what is behind
  abbrev behind_name : Expression → List Expression
  behind_name type = params_parts type ∷ a class.CloseParen ∷ maybe base_rows ∷ body_rows

  parenthesised : (type : Expression) → avoids (class_number class.CloseParen ∷ []) [] (params_parts type) ≡ true → Gives ⊥ Good ParamGood param (param_parts type ∷ []) → ((ys : List Part) → Matches (param_parts type) (heads ys) → Calm ys)
      → (t : Title) → TitleGood t → Gives (Unit {0}) Good FunctionGood (function_params t) (behind_name type)
  unfolding function_params
  parenthesised type h st calm t ht = up_to_gives class.CloseParen (params_parts type) _ _ h (λ ps m g. record {
    there = λ xs w f. where_if FunctionGood (params_stand ps) (function_end t ps xs) (λ _. (end_gives t ps ht (params_good type st calm ps m g)).there xs w f);
  })

  named_function : (more : List Expression) → ((t : Title) → TitleGood t → Gives (Unit {0}) Good FunctionGood (function_params t) more) → (ws : List Part) (t : Option Typed) (s : Option Part) (d : Bool) → If (TypeGood tokens n) t → If (NamePart tokens n) s
      → Gives (Unit {0}) Good FunctionGood (function_named ws t s d) (name_parts ∷ a class.OpenParen ∷ more)
  unfolding function_named class_number form_number
  named_function more st ws t s d ht hs = must_gives (class.Name ∷ class.TypeName ∷ []) [] _ _ _ _ refl refl (λ x v g. sign_gives _ _ _ _ refl
      (st (record { words = ws; result = t; scope = s; destructor = d; name = x }) (record { result = ht; scope = hs; named = (g, v) })))

  titled_function : (more : List Expression) → ((t : Title) → TitleGood t → Gives (Unit {0}) Good FunctionGood (function_params t) more) → (ws : List Part) (t : Option Typed) → If (TypeGood tokens n) t
      → Gives (Unit {0}) Good FunctionGood (function_typed ws t) (title_rows more)
  unfolding function_typed class_number form_number
  titled_function more st ws t ht = scoped_gives (λ s. let d = may (class.Tilde ∷ []) s.1 in function_named ws t s.0 d.0 d.1) (plain_rows more) (plain_no_colons more)
      (λ o ho. may_gives (class.Tilde ∷ []) _ (λ d. function_named ws t o d.0 d.1) _ refl refl (λ d. named_function more st ws t o d ht ho))

  calm_lent : (ys : List Part) → Matches (param_parts lent) (heads ys) → Calm ys
  unfolding class_number form_number
  calm_lent = calm_of (param_parts lent) refl refl refl

  calm_alone : (ys : List Part) → Matches (param_parts lent_alone) (heads ys) → Calm ys
  unfolding class_number form_number
  calm_alone = calm_of (param_parts lent_alone) refl refl refl

  typed_function : (ws : List Part) → Gives (Unit {0}) Good FunctionGood (function_worded ws) (pointed_alone ∷ title_rows (behind_name lent))
  unfolding function_worded class_number form_number
  typed_function ws = pointed_typed (λ t. function_typed ws t.0 t.1) _ refl refl refl (λ t b v g. titled_function (behind_name lent) (parenthesised lent refl lent_param calm_lent) ws (Some (record { type = t; pointer = b })) (g, v))

  untyped_function : (ws : List Part) → Gives (Unit {0}) Good FunctionGood (function_worded ws) (title_rows (behind_name lent_alone))
  unfolding function_worded class_number form_number
  untyped_function ws = record {
    there = λ xs m g.
        subst (λ t. Where FunctionGood (function_typed ws t.0 t.1)) (sym (typed_not xs (no_type (behind_name lent_alone) xs m)))
        ((titled_function (behind_name lent_alone) (parenthesised lent_alone refl alone_param calm_alone) ws None tt).there xs m g);
  }

  -- all parts of a function
  pub function_where : Gives (Unit {0}) Good FunctionGood function (function_parts ∷ [])
  unfolding function class_number form_number
  function_where = seq_gives _ _ _ _ (run_gives function_words _ (λ p. function_worded p.0 p.1) _ refl refl (λ ws.
      either_gives _ _ _ _
      (seq_gives _ _ _ _ (record { there = λ xs m g. (typed_function ws).there xs (m.0, m.1, m.2, m.3, flattened (function_behind_type lent) [] m.1 m.4) g }))
      (flat_gives _ (function_behind_type lent_alone) [] (untyped_function ws))))

  pub function_has : (xs : List Part) → Matches function_parts (heads xs) → Every Good xs → Has FunctionGood (function xs)
  function_has xs m g = has_where FunctionGood (function xs) (function_total.there xs (all_of function_parts (heads xs) m)) (function_where.there xs (all_of function_parts (heads xs) m) g)
