-- Statements are read.
use Rattle.std.proofs.Common.{◌≡◌, ℕ, zero, suc, Bool, true, false, List, [], ◌∷◌, ◌++◌, map, Option, Some, None, is_some, refl, sym, ap, subst, ◌∙◌, inl, inr, if◌then◌else◌}
use Rattle.std.specs.Prelude.{option_map}
use Rattle.mql_forms.specs.Numbers.{form_number}
use Rattle.mql_forms.specs.declared.form.Form.{Form}
use Rattle.mql_forms.specs.declared.form.Form.TheVariants as form
use Rattle.mql_grammar.specs.Expression.{Expression, seq, many, Matches, Times}
use Rattle.mql_grammar.specs.Expressions.{a, a_token, expr, args, maybe, in_order, one_of, local_variables, local_or_list, more_variables, pointed, statement as statement_parts, expression_of}
use Rattle.mql_grammar.specs.Numbers.{class_number}
use Rattle.mql_grammar.specs.Table.{listed, both}
use Rattle.mql_grammar.specs.declared.token_class.Class.{Class}
use Rattle.mql_grammar.specs.declared.token_class.Class.TheVariants as class
use Rattle.mql_grammar.proofs.Derivatives.{MatchesAll, Edge, Goes, firsts_all, goes_all, nullable_all, all_empty}
use Rattle.mql_parse.specs.Classes.{classes_of}
use Rattle.mql_tree.specs.declared.token.Span.{Span}
use Rattle.mql_tree.specs.declared.token.Token.{Token}
use Rattle.mql_tree.specs.declared.token.Tree.{Tree, out-Tree}
use Rattle.mql_tree.specs.declared.token.Tree.TheOpen.{Tree-F}
use Rattle.mql_views.specs.Cuts.{on, is, next, last, sign}
use Rattle.mql_views.specs.Laws.{heads}
use Rattle.mql_views.specs.Parts.{Part}
use Rattle.mql_views.specs.Values.{in_braces}
use Rattle.mql_views.specs.Declarations.{Variables, variables, local_words}
use Rattle.mql_views.specs.Statements.{tested, if_end, if_of, while_of, do_of, Simple, Locals, Values, local_or_values, simple, For, at_most_one, for_end, for_of, switch_of, return_of, delete_of}
use Rattle.mql_views.proofs.Stands.{away_head, edges_away, single_part, both_two, flat, flattened, opened, all_of, cut_one, cut_map, cut_row, one_part, front_away, front_within, nothing_left}
use Rattle.mql_syntax.specs.Lists.{each}
use Rattle.mql_syntax.specs.Leaves.{place_of, inner}
use Rattle.mql_syntax.specs.Values.{items, value}
use Rattle.mql_syntax.specs.declared.kind.Place.{Place}
use Rattle.mql_syntax.specs.declared.kind.StatementKind.{StatementKind}
use Rattle.mql_syntax.specs.declared.kind.StatementKind.TheVariants as kind
use Rattle.mql_syntax.specs.declared.statement.Statement.{Statement}
use Rattle.mql_syntax_read.specs.Statements.{Piece, Whole, Begin, Case, Default, Shape, plain, simple_shape, listed as list_of_one, whole, label_or_whole, labelled, block_shape, simple_of, if_shape, while_shape, do_shape, for_shape, switch_shape, return_shape, delete_shape, shape, shape_in, shape_of, locals_of, stated, piece, statement}
use Rattle.mql_syntax_total.specs.Formed.{Every, IsFormed}
use Rattle.mql_syntax_total.proofs.Gives.{false_true, Held, Has, Among, Gives, every_among, front_among, sign_gives, next_gives, last_gives, last_on_gives, ended_gives, none_gives, maybe_gives, cons_gives, map_gives, up_to_gives, all_to_gives, lone_gives, has_on, has_map, given_by, every_front, every_back, every_both}
use Rattle.mql_syntax_total.proofs.Tokens.{Is}
use Rattle.mql_syntax_total.proofs.Trees.{inner_formed, node_form, no_leaf}
use Rattle.mql_syntax_total.proofs.Types.{each_is, none_below}
use Rattle.mql_syntax_total.proofs.Values.{value_cs, value_fs, ValuePart, items_good}
use Rattle.mql_syntax_total.proofs.Variables.{If as Maybe, VariablesGood, pointed_gives, worded_gives, values_read, variables_read}

abbrev pub statement_fs : List ℕ
statement_fs = 9 ∷ 10 ∷ 11 ∷ 12 ∷ 13 ∷ 14 ∷ 15 ∷ 16 ∷ 17 ∷ 18 ∷ 19 ∷ 20 ∷ []

-- behind the first part of these stands another, which is none of those
abbrev pub seconds_away : List ℕ → List Edge → Bool
seconds_away cs [] = true
seconds_away cs (e ∷ es) = both (both (edges_away cs [] (firsts_all e.rest)) (λ _. elim (nullable_all e.rest) [ true ↦ false | false ↦ true ])) (λ _. seconds_away cs es)

pub second_part : (cs : List Class) (es : List Expression) → seconds_away (map class_number cs) (firsts_all es) ≡ true → (x : Part) (xs : List Part) → MatchesAll es (heads (x ∷ xs))
    → (y : Part) × (zs : List Part) × (xs ≡ y ∷ zs) × (is cs [] y ≡ false)
second_part cs es d x xs m = go (firsts_all es) d (goes_all es x.head (heads xs) m)
  where
    opposite_true : (b : Bool) → elim b [ true ↦ false | false ↦ true ] ≡ true → b ≡ false
    opposite_true true e = false_true e
    opposite_true false e = refl

    behind : (rest : List Expression) → edges_away (map class_number cs) [] (firsts_all rest) ≡ true → nullable_all rest ≡ false → (xs : List Part) → MatchesAll rest (heads xs) → (y : Part) × (zs : List Part) × (xs ≡ y ∷ zs) × (is cs [] y ≡ false)
    behind rest d n [] m = false_true (sym n ∙ all_empty rest m)
    behind rest d n (y ∷ zs) m = (y, zs, refl, front_away cs rest d y zs m)

    go : (edges : List Edge) → seconds_away (map class_number cs) edges ≡ true → Goes MatchesAll edges x.head (heads xs) → (y : Part) × (zs : List Part) × (xs ≡ y ∷ zs) × (is cs [] y ≡ false)
    go [] d g = absurd g
    go (e ∷ edges) d (inl h) =
        let two = both_two (both (edges_away (map class_number cs) [] (firsts_all e.rest)) (λ _. elim (nullable_all e.rest) [ true ↦ false | false ↦ true ])) (seconds_away (map class_number cs) edges) d in
        let own = both_two (edges_away (map class_number cs) [] (firsts_all e.rest)) (elim (nullable_all e.rest) [ true ↦ false | false ↦ true ]) two.0 in
        behind e.rest own.0 (opposite_true (nullable_all e.rest) own.1) xs h.1
    go (e ∷ edges) d (inr g) = go edges (both_two (both (edges_away (map class_number cs) [] (firsts_all e.rest)) (λ _. elim (nullable_all e.rest) [ true ↦ false | false ↦ true ])) (seconds_away (map class_number cs) edges) d).1 g

every_join : {A : Type 0} (P : A → Type 0) (xs ys : List A) → Every P xs → Every P ys → Every P (xs ++ ys)
every_join P [] ys g h = h
every_join P (x ∷ xs) ys g h = (g.0, every_join P xs ys g.1 h)

-- "(" test ")"
tested_gives : {B : Type 0} {N : Type 0} {G : Part → Type 0} {Q : B → Type 0} (k : Part × List Part → Option B) (es : List Expression) → ((t : Part) → Among value_cs value_fs t → G t → Gives N G Q (λ zs. k (t, zs)) es)
    → Gives N G Q (λ xs. on (tested xs) k) (a class.OpenParen ∷ expr ∷ a class.CloseParen ∷ es)
unfolding tested is sign class_number form_number
tested_gives {N = N} {G = G} {Q = Q} k es st = record {
  there = λ xs m g.
      let o = cut_one (34 ∷ []) [] (expr ∷ a class.CloseParen ∷ es) xs m in
      let t = front_among value_cs value_fs expr (a class.CloseParen ∷ es) refl refl o.1 o.4 (subst (Every G) o.2 g).1 in
      let c = cut_one (36 ∷ []) [] es t.1 t.4 in
      let h = subst (Every G) c.2 t.6 in
      subst (Held N Q) (sym (
      ap (λ xs. on (tested xs) k) (o.2 ∙ ap (λ zs. o.0 ∷ zs) (t.2 ∙ ap (λ zs. t.0 ∷ zs) c.2))
      ∙ ap (λ (b : Bool). on (on (if b then Some (t.0 ∷ c.0 ∷ c.1) else None) (λ ys. on (next ys) (λ t. option_map (λ zs. (t.0, zs)) (sign (class.CloseParen ∷ []) t.1)))) k) o.3
      ∙ ap (λ (b : Bool). on (option_map (λ zs. (t.0, zs)) (if b then Some c.1 else None)) k) c.3
      )) ((st t.0 t.3 t.5).there c.1 c.4 h.1);
}

module _ (tokens : List (Token × Span)) (n : ℕ) where
  abbrev Good : Part → Type 0
  Good p = IsFormed tokens n p

  -- a part where a statement may stand
  abbrev pub StatementPart : Part → Type 0
  StatementPart p = IsFormed tokens n p × Among [] statement_fs p

  abbrev SimpleGood : Simple → Type 0
  SimpleGood (Locals v) = VariablesGood tokens n v
  SimpleGood (Values xs) = Every (ValuePart tokens n) (items xs)

  abbrev PieceGood : Piece → Type 0
  PieceGood (Whole p) = StatementPart p
  PieceGood (Begin s) = SimpleGood s
  PieceGood (Case v) = ValuePart tokens n v
  PieceGood Default = Unit {0}

  -- a shape of whose parts each is what it is named
  pub record ShapeGood (s : Shape) : Type 0 where
    pub locals : Maybe (VariablesGood tokens n) s.locals
    pub values : Every (ValuePart tokens n) s.values
    pub parts : Every PieceGood s.parts

  plain_good : (what : StatementKind) (vs : List Part) (ps : List Piece) → Every (ValuePart tokens n) vs → Every PieceGood ps → ShapeGood (plain what vs ps)
  plain_good what vs ps g h = record { locals = tt; values = g; parts = h }

  simple_good : (s : Simple) → SimpleGood s → ShapeGood (simple_shape s)
  simple_good (Locals v) g = record { locals = g; values = tt; parts = tt }
  simple_good (Values xs) g = record { locals = tt; values = g; parts = tt }

  -- a declaration, or values
  abbrev local_rows : Expression
  local_rows = seq (many (a_token (class.Static ∷ class.Const ∷ []))) local_variables

  locals_gives : Gives ⊥ Good (VariablesGood tokens n) (variables local_words) (flat (many (a_token (class.Static ∷ class.Const ∷ []))) (pointed ∷ more_variables ∷ []))
  unfolding class_number form_number
  locals_gives = worded_gives tokens n local_words _ _ refl refl (λ ws. pointed_gives tokens n ws)

  locals_has : (xs : List Part) → Matches local_rows (heads xs) → Every Good xs → Has SimpleGood (local_or_values xs)
  unfolding local_or_values class_number form_number
  locals_has xs m g =
      let r = opened (many (a_token (class.Static ∷ class.Const ∷ []))) local_variables [] (heads xs) (all_of local_rows (heads xs) m) in
      let rows : MatchesAll (many (a_token (class.Static ∷ class.Const ∷ [])) ∷ pointed ∷ more_variables ∷ []) (heads xs) = (r.0, r.1, r.2, r.3, opened pointed more_variables [] r.1 r.4) in
      go xs rows (locals_gives.there xs rows g)
    where
      same_head : (y z : Part) (ys zs : List Part) → y ∷ ys ≡ z ∷ zs → y ≡ z
      same_head y z ys zs e = cc

      no_second : {B : Type 0} → (y : Part) × (zs : List Part) × (◌≡◌ {A = List Part} [] (y ∷ zs)) × (is (class.Comma ∷ []) [] y ≡ false) → B
      no_second s = absurd (let f : ◌≡◌ {A = List Part} [] (s.0 ∷ s.1) → ⊥ = λ e. cc in f s.2)

      go : (xs : List Part) → MatchesAll (many (a_token (class.Static ∷ class.Const ∷ [])) ∷ pointed ∷ more_variables ∷ []) (heads xs) → Has (VariablesGood tokens n) (variables local_words xs) → Has SimpleGood (local_or_values xs)
      go [] m h = false_true (all_empty (many (a_token (class.Static ∷ class.Const ∷ [])) ∷ pointed ∷ more_variables ∷ []) m)
      go (x ∷ []) m h = no_second (second_part (class.Comma ∷ []) (many (a_token (class.Static ∷ class.Const ∷ [])) ∷ pointed ∷ more_variables ∷ []) refl x [] m)
      go (x ∷ y ∷ zs) m h =
          let s = second_part (class.Comma ∷ []) (many (a_token (class.Static ∷ class.Const ∷ [])) ∷ pointed ∷ more_variables ∷ []) refl x (y ∷ zs) m in
          let e : is (class.Comma ∷ []) [] y ≡ false = ap (λ p. is (class.Comma ∷ []) [] p) (same_head y s.0 zs s.1 s.2) ∙ s.3 in
          subst (Has SimpleGood) (sym (ap (λ (b : Bool). if b then Some (Values (x ∷ y ∷ zs)) else option_map Locals (variables local_words (x ∷ y ∷ zs))) e))
          (has_map SimpleGood Locals (variables local_words (x ∷ y ∷ zs)) h)

  abbrev commas : Expression
  commas = many (in_order (a class.Comma ∷ expr ∷ []))

  values_has : (xs : List Part) → Matches args (heads xs) → Every Good xs → Has SimpleGood (local_or_values xs)
  unfolding local_or_values class_number form_number
  values_has xs m g =
      let rows = opened expr commas [] (heads xs) (all_of args (heads xs) m) in
      let good = items_good tokens n args refl xs m g in
      let r = cut_row expr (commas ∷ []) xs rows in
      let o = single_part expr refl r.0 r.3 in
      go o.0 r.1 (r.2 ∙ ap (λ ys. ys ++ r.1) o.1) r.4 good
    where
      go : (y : Part) (zs : List Part) → xs ≡ y ∷ zs → MatchesAll (commas ∷ []) (heads zs) → Every (ValuePart tokens n) (items xs) → Has SimpleGood (local_or_values xs)
      go y [] p m h = subst (λ xs. Every (ValuePart tokens n) (items xs) → Has SimpleGood (local_or_values xs)) (sym p) (λ h. h) h
      go y (z ∷ zs) p m h =
          let e : is (class.Comma ∷ []) [] z ≡ true = front_within (class.Comma ∷ []) [] (commas ∷ []) refl z zs m in
          subst (λ xs. Every (ValuePart tokens n) (items xs) → Has SimpleGood (local_or_values xs)) (sym p)
          (λ h. subst (Has SimpleGood) (sym (ap (λ (b : Bool). if b then Some (Values (y ∷ z ∷ zs)) else option_map Locals (variables local_words (y ∷ z ∷ zs))) e)) h) h

  local_has : (ys : List Part) → Matches local_or_list (heads ys) → Every Good ys → Has SimpleGood (local_or_values ys)
  local_has ys (inl m) g = locals_has ys m g
  local_has ys (inr m) g = values_has ys m g

  local_maybe : (ys : List Part) → Matches (maybe local_or_list) (heads ys) → Every Good ys → Has SimpleGood (local_or_values ys)
  unfolding local_or_values
  local_maybe ys (inl m) g = subst (λ ys. Has SimpleGood (local_or_values ys)) (sym (nothing_left ys m)) tt
  local_maybe ys (inr m) g = local_has ys m g

  -- a value or none
  at_most : (ys : List Part) → Matches (maybe expr) (heads ys) → Every Good ys → Has (Maybe (ValuePart tokens n)) (at_most_one ys)
  unfolding at_most_one class_number form_number
  at_most ys (inl m) g = subst (λ ys. Has (Maybe (ValuePart tokens n)) (at_most_one ys)) (sym (nothing_left ys m)) tt
  at_most ys (inr m) g =
      let r = front_among value_cs value_fs expr [] refl refl ys (all_of expr (heads ys) m) g in
      subst (λ ys. Has (Maybe (ValuePart tokens n)) (at_most_one ys)) (sym (r.2 ∙ ap (λ zs. r.0 ∷ zs) (nothing_left r.1 r.4))) (r.5, r.3)

  listed_good : (o : Option Part) → Maybe (ValuePart tokens n) o → Every (ValuePart tokens n) (list_of_one o)
  listed_good None h = tt
  listed_good (Some p) h = (h, tt)

  -- statements
  whole_good : (xs : List Part) → Every StatementPart xs → Every PieceGood (whole xs)
  whole_good [] g = tt
  whole_good (x ∷ xs) g = (g.0, whole_good xs g.1)

  whole_maybe : (o : Option Part) → Maybe StatementPart o → Every PieceGood (whole (list_of_one o))
  whole_maybe None h = tt
  whole_maybe (Some p) h = (h, tt)

  block_gives : Gives ⊥ Good ShapeGood block_shape (flat (expression_of form.Block) [])
  unfolding block_shape in_braces expression_of class_number form_number
  block_gives = map_gives _ _ _ (sign_gives _ _ _ _ refl (lone_gives class.CloseBrace (many statement_parts) refl
      (λ ys m g. plain_good kind.Block [] (whole ys) tt (whole_good ys (every_both Good (Among [] statement_fs) ys g (every_among [] statement_fs (many statement_parts) refl ys m))))))

  simple_gives : Gives ⊥ Good ShapeGood simple_of (flat (expression_of form.Simple) [])
  unfolding simple_of simple expression_of class_number form_number
  simple_gives = map_gives _ _ _ (simple_map (all_to_gives class.Semicolon local_or_list local_or_values refl local_has))
    where
      has_simple : (o : Option Simple) → Has SimpleGood o → Has (λ s. ShapeGood (simple_shape s)) o
      has_simple None h = absurd h
      has_simple (Some s) h = simple_good s h

      simple_map : {es : List Expression} {k : List Part → Option Simple} → Gives ⊥ Good SimpleGood k es → Gives ⊥ Good (λ s. ShapeGood (simple_shape s)) k es
      simple_map {k = k} st = record { there = λ xs m g. has_simple (k xs) (st.there xs m g) }

  if_none : (t s : Part) → ValuePart tokens n t → StatementPart s → Gives ⊥ Good (λ i. ShapeGood (plain kind.If (i.test ∷ []) (Whole i.chosen ∷ whole (list_of_one i.other)))) (if_end t s) []
  unfolding if_end
  if_none t s g h = none_gives _ (plain_good kind.If _ _ (g, tt) (h, tt))

  if_else : (t s : Part) → ValuePart tokens n t → StatementPart s → Gives ⊥ Good (λ i. ShapeGood (plain kind.If (i.test ∷ []) (Whole i.chosen ∷ whole (list_of_one i.other)))) (if_end t s) (a class.Else ∷ statement_parts ∷ [])
  unfolding if_end class_number form_number
  if_else t s g h =
      cons_gives (if_end t s) (λ xs. on (sign (class.Else ∷ []) xs) (λ ys. option_map (λ e. record { test = t; chosen = s; other = Some e }) (last ys))) _ refl (λ x xs. refl)
      (sign_gives _ _ _ _ refl (last_gives [] statement_fs _ _ refl refl (λ e v f. plain_good kind.If _ _ (g, tt) (h, ((f, v), tt)))))

  if_gives : Gives ⊥ Good ShapeGood if_shape (flat (expression_of form.If) [])
  unfolding if_shape if_of expression_of class_number form_number
  if_gives = map_gives _ _ _ (sign_gives _ _ _ _ refl (tested_gives _ _ (λ t v g. next_gives [] statement_fs _ _ _ refl refl (λ s w h. maybe_gives _ _ _ (if_none t s (g, v) (h, w)) (if_else t s (g, v) (h, w))))))

  while_gives : Gives ⊥ Good ShapeGood while_shape (flat (expression_of form.While) [])
  unfolding while_shape while_of expression_of class_number form_number
  while_gives = map_gives _ _ _ (sign_gives _ _ _ _ refl (tested_gives _ _ (λ t v g. last_gives [] statement_fs _ _ refl refl (λ s w h. plain_good kind.While _ _ ((g, v), tt) ((h, w), tt)))))

  do_gives : Gives ⊥ Good ShapeGood do_shape (flat (expression_of form.Do) [])
  unfolding do_shape do_of expression_of class_number form_number
  do_gives = map_gives _ _ _ (sign_gives _ _ _ _ refl (next_gives [] statement_fs _ _ _ refl refl (λ s w h. sign_gives _ _ _ _ refl (tested_gives _ _ (λ t v g. sign_gives _ _ _ _ refl (ended_gives _ (plain_good kind.Do _ _ ((g, v), tt) ((h, w), tt))))))))

  -- `for`
  abbrev ForGood : For → Type 0
  ForGood f = SimpleGood f.start × Maybe (ValuePart tokens n) f.test × Every (ValuePart tokens n) (items f.step) × StatementPart f.body

  for_good : (f : For) → ForGood f → ShapeGood (plain (kind.For (is_some f.test)) (list_of_one f.test ++ items f.step) (Begin f.start ∷ Whole f.body ∷ []))
  for_good f g = plain_good _ _ _ (every_join (ValuePart tokens n) (list_of_one f.test) (items f.step) (listed_good f.test g.1) g.2) (g.0, (g.3, tt))

  for_ended : (start test step : List Part) (body : Part) → Has SimpleGood (local_or_values start) → Has (Maybe (ValuePart tokens n)) (at_most_one test) → Every (ValuePart tokens n) (items step) → StatementPart body
      → Has (λ f. ShapeGood (plain (kind.For (is_some f.test)) (list_of_one f.test ++ items f.step) (Begin f.start ∷ Whole f.body ∷ []))) (for_end start test step body)
  unfolding for_end
  for_ended start test step body s t p b = has_on SimpleGood _ (local_or_values start) _ s (λ v hv. has_map _ _ (at_most_one test) (has_test v hv (at_most_one test) t))
    where
      has_test : (v : Simple) → SimpleGood v → (o : Option (Option Part)) → Has (Maybe (ValuePart tokens n)) o
          → Has (λ t. ShapeGood (plain (kind.For (is_some t)) (list_of_one t ++ items step) (Begin v ∷ Whole body ∷ []))) o
      has_test v hv None h = absurd h
      has_test v hv (Some t) h = for_good (record { start = v; test = t; step = step; body = body }) (hv, h, p, b)

  for_gives : Gives ⊥ Good ShapeGood for_shape (flat (expression_of form.For) [])
  unfolding for_shape for_of expression_of class_number form_number
  for_gives = map_gives _ _ _ (sign_gives _ _ _ _ refl (sign_gives _ _ _ _ refl
      (up_to_gives class.Semicolon (maybe local_or_list) _ _ refl (λ start ms gs.
      up_to_gives class.Semicolon (maybe expr) _ _ refl (λ test mt gt.
      up_to_gives class.CloseParen (maybe args) _ _ refl (λ step mp gp.
      last_on_gives [] statement_fs _ _ refl refl (λ body v g. for_ended start test step body (local_maybe start ms gs) (at_most test mt gt) (items_good tokens n (maybe args) refl step mp gp) (g, v))))))))

  -- labels and statements
  abbrev labels : Expression
  labels = one_of (
      in_order (a class.Case ∷ expr ∷ a class.Colon ∷ []) ∷ in_order (a class.Default ∷ a class.Colon ∷ [])
      ∷ statement_parts ∷ [])

  is_label : (behind : Bool) (x : Part) (xs : List Part) → is (class.Case ∷ []) [] x ≡ false → is (class.Colon ∷ []) [] x ≡ false → is (class.Default ∷ []) [] x ≡ false → labelled behind (x ∷ xs) ≡ label_or_whole behind x ∷ labelled false xs
  is_label behind x xs c d e =
      ap (λ (b : Bool). if b then labelled true xs else if is (class.Colon ∷ []) [] x then labelled false xs else if is (class.Default ∷ []) [] x then Default ∷ labelled false xs else label_or_whole behind x ∷ labelled false xs) c
      ∙ ap (λ (b : Bool). if b then labelled false xs else if is (class.Default ∷ []) [] x then Default ∷ labelled false xs else label_or_whole behind x ∷ labelled false xs) d
      ∙ ap (λ (b : Bool). if b then Default ∷ labelled false xs else label_or_whole behind x ∷ labelled false xs) e

  is_case : (behind : Bool) (x : Part) (xs : List Part) → is (class.Case ∷ []) [] x ≡ true → labelled behind (x ∷ xs) ≡ labelled true xs
  is_case behind x xs c = ap (λ (b : Bool). if b then labelled true xs else if is (class.Colon ∷ []) [] x then labelled false xs else if is (class.Default ∷ []) [] x then Default ∷ labelled false xs else label_or_whole behind x ∷ labelled false xs) c

  is_colon : (behind : Bool) (x : Part) (xs : List Part) → is (class.Case ∷ []) [] x ≡ false → is (class.Colon ∷ []) [] x ≡ true → labelled behind (x ∷ xs) ≡ labelled false xs
  is_colon behind x xs c d =
      ap (λ (b : Bool). if b then labelled true xs else if is (class.Colon ∷ []) [] x then labelled false xs else if is (class.Default ∷ []) [] x then Default ∷ labelled false xs else label_or_whole behind x ∷ labelled false xs) c
      ∙ ap (λ (b : Bool). if b then labelled false xs else if is (class.Default ∷ []) [] x then Default ∷ labelled false xs else label_or_whole behind x ∷ labelled false xs) d

  is_default : (behind : Bool) (x : Part) (xs : List Part) → is (class.Case ∷ []) [] x ≡ false → is (class.Colon ∷ []) [] x ≡ false → is (class.Default ∷ []) [] x ≡ true → labelled behind (x ∷ xs) ≡ Default ∷ labelled false xs
  is_default behind x xs c d e =
      ap (λ (b : Bool). if b then labelled true xs else if is (class.Colon ∷ []) [] x then labelled false xs else if is (class.Default ∷ []) [] x then Default ∷ labelled false xs else label_or_whole behind x ∷ labelled false xs) c
      ∙ ap (λ (b : Bool). if b then labelled false xs else if is (class.Default ∷ []) [] x then Default ∷ labelled false xs else label_or_whole behind x ∷ labelled false xs) d
      ∙ ap (λ (b : Bool). if b then Default ∷ labelled false xs else label_or_whole behind x ∷ labelled false xs) e

  one_label : (ys zs : List Part) → Matches labels (heads ys) → Every Good ys → Every PieceGood (labelled false zs) → Every PieceGood (labelled false (ys ++ zs))
  unfolding is class_number form_number
  one_label ys zs (inl m) g h =
      let rows = flattened (in_order (a class.Case ∷ expr ∷ a class.Colon ∷ [])) [] (heads ys) (all_of (in_order (a class.Case ∷ expr ∷ a class.Colon ∷ [])) (heads ys) m) in
      let c = cut_one (26 ∷ []) [] (expr ∷ a class.Colon ∷ []) ys rows in
      let v = front_among value_cs value_fs expr (a class.Colon ∷ []) refl refl c.1 c.4 (subst (Every Good) c.2 g).1 in
      let d = cut_one (44 ∷ []) [] [] v.1 v.4 in
      let p : ys ≡ c.0 ∷ v.0 ∷ d.0 ∷ [] = c.2 ∙ ap (λ zs. c.0 ∷ zs) (v.2 ∙ ap (λ zs. v.0 ∷ zs) (d.2 ∙ ap (λ zs. d.0 ∷ zs) (nothing_left d.1 d.4))) in
      subst (Every PieceGood) (sym (
      ap (λ us. labelled false (us ++ zs)) p
      ∙ is_case false c.0 (v.0 ∷ d.0 ∷ zs) c.3
      ∙ is_label true v.0 (d.0 ∷ zs) (away_head (26 ∷ []) [] value_cs value_fs v.0.head refl refl v.3) (away_head (44 ∷ []) [] value_cs value_fs v.0.head refl refl v.3) (away_head (27 ∷ []) [] value_cs value_fs v.0.head refl refl v.3)
      ∙ ap (λ us. Case v.0 ∷ us) (is_colon false d.0 zs (away_head (26 ∷ []) [] (44 ∷ []) [] d.0.head refl refl d.3) d.3)
      )) ((v.5, v.3), h)
  one_label ys zs (inr (inl m)) g h =
      let rows = flattened (in_order (a class.Default ∷ a class.Colon ∷ [])) [] (heads ys) (all_of (in_order (a class.Default ∷ a class.Colon ∷ [])) (heads ys) m) in
      let c = cut_one (27 ∷ []) [] (a class.Colon ∷ []) ys rows in
      let d = cut_one (44 ∷ []) [] [] c.1 c.4 in
      let p : ys ≡ c.0 ∷ d.0 ∷ [] = c.2 ∙ ap (λ zs. c.0 ∷ zs) (d.2 ∙ ap (λ zs. d.0 ∷ zs) (nothing_left d.1 d.4)) in
      subst (Every PieceGood) (sym (
      ap (λ us. labelled false (us ++ zs)) p
      ∙ is_default false c.0 (d.0 ∷ zs) (away_head (26 ∷ []) [] (27 ∷ []) [] c.0.head refl refl c.3) (away_head (44 ∷ []) [] (27 ∷ []) [] c.0.head refl refl c.3) c.3
      ∙ ap (λ us. Default ∷ us) (is_colon false d.0 zs (away_head (26 ∷ []) [] (44 ∷ []) [] d.0.head refl refl d.3) d.3)
      )) (tt, h)
  one_label ys zs (inr (inr m)) g h =
      let o = one_part [] statement_fs ys m in
      subst (Every PieceGood) (sym (
      ap (λ us. labelled false (us ++ zs)) o.1
      ∙ is_label false o.0 zs (away_head (26 ∷ []) [] [] statement_fs o.0.head refl refl o.2) (away_head (44 ∷ []) [] [] statement_fs o.0.head refl refl o.2) (away_head (27 ∷ []) [] [] statement_fs o.0.head refl refl o.2)
      )) (((subst (Every Good) o.1 g).0, o.2), h)

  labels_times : (k : ℕ) (xs : List Part) → Times k (Matches labels) (heads xs) → Every Good xs → Every PieceGood (labelled false xs)
  labels_times zero xs m g = subst (λ xs. Every PieceGood (labelled false xs)) (sym (nothing_left xs m)) tt
  labels_times (suc k) xs m g =
      let r = cut_map xs m.0 m.1 m.2 in
      let h = subst (Every Good) r.2 g in
      subst (λ xs. Every PieceGood (labelled false xs)) (sym r.2)
      (one_label r.0 r.1 (subst (Matches labels) (sym r.3) m.3) (every_front Good r.0 r.1 h) (labels_times k r.1 (subst (Times k (Matches labels)) (sym r.4) m.4) (every_back Good r.0 r.1 h)))

  switch_gives : Gives ⊥ Good ShapeGood switch_shape (flat (expression_of form.Switch) [])
  unfolding switch_shape switch_of expression_of class_number form_number
  switch_gives = map_gives _ _ _ (sign_gives _ _ _ _ refl (tested_gives _ _ (λ t v g. sign_gives _ _ _ _ refl (map_gives _ _ _ (lone_gives class.CloseBrace (many labels) refl
      (λ ys m h. plain_good kind.Switch _ _ ((g, v), tt) (labels_times m.0 ys m.1 h)))))))

  return_gives : Gives ⊥ Good ShapeGood return_shape (flat (expression_of form.Return) [])
  unfolding return_shape return_of expression_of class_number form_number
  return_gives = map_gives _ _ _ (sign_gives _ _ _ _ refl (return_map (all_to_gives class.Semicolon (maybe expr) at_most_one refl at_most)))
    where
      has_return : (o : Option (Option Part)) → Has (Maybe (ValuePart tokens n)) o → Has (λ v. ShapeGood (plain kind.Return (list_of_one v) [])) o
      has_return None h = absurd h
      has_return (Some v) h = plain_good kind.Return (list_of_one v) [] (listed_good v h) tt

      return_map : {es : List Expression} {k : List Part → Option (Option Part)} → Gives ⊥ Good (Maybe (ValuePart tokens n)) k es → Gives ⊥ Good (λ v. ShapeGood (plain kind.Return (list_of_one v) [])) k es
      return_map {k = k} st = record { there = λ xs m g. has_return (k xs) (st.there xs m g) }

  delete_gives : Gives ⊥ Good ShapeGood delete_shape (flat (expression_of form.Delete) [])
  unfolding delete_shape delete_of expression_of class_number form_number
  delete_gives = map_gives _ _ _ (sign_gives _ _ _ _ refl (next_gives value_cs value_fs _ _ _ refl refl (λ v w g. sign_gives _ _ _ _ refl (ended_gives _ (plain_good kind.Delete _ _ ((g, w), tt) tt)))))

  -- the nodes of statements
  node_shape : (f : Form) → listed (form_number f) statement_fs ≡ true → (xs : List Part) → Matches (expression_of f) (heads xs) → Every Good xs → Has ShapeGood (shape f xs)
  unfolding form_number shape
  node_shape form.Program h xs m g = false_true h
  node_shape form.Item h xs m g = false_true h
  node_shape form.Template h xs m g = false_true h
  node_shape form.GenericType h xs m g = false_true h
  node_shape form.Braces h xs m g = false_true h
  node_shape form.Enumeration h xs m g = false_true h
  node_shape form.Class h xs m g = false_true h
  node_shape form.Member h xs m g = false_true h
  node_shape form.Block h xs m g = given_by form.Block _ block_gives xs m g
  node_shape form.Empty h xs m g = plain_good kind.Empty [] [] tt tt
  node_shape form.Simple h xs m g = given_by form.Simple _ simple_gives xs m g
  node_shape form.If h xs m g = given_by form.If _ if_gives xs m g
  node_shape form.While h xs m g = given_by form.While _ while_gives xs m g
  node_shape form.Do h xs m g = given_by form.Do _ do_gives xs m g
  node_shape form.For h xs m g = given_by form.For _ for_gives xs m g
  node_shape form.Switch h xs m g = given_by form.Switch _ switch_gives xs m g
  node_shape form.Break h xs m g = plain_good kind.Break [] [] tt tt
  node_shape form.Continue h xs m g = plain_good kind.Continue [] [] tt tt
  node_shape form.Return h xs m g = given_by form.Return _ return_gives xs m g
  node_shape form.Delete h xs m g = given_by form.Delete _ delete_gives xs m g
  node_shape form.GenericFunction h xs m g = false_true h
  node_shape form.Bracket h xs m g = false_true h
  node_shape form.Scope h xs m g = false_true h
  node_shape form.Conversion h xs m g = false_true h
  node_shape form.New h xs m g = false_true h
  node_shape form.DynamicCast h xs m g = false_true h
  node_shape form.MemberAccess h xs m g = false_true h
  node_shape form.Index h xs m g = false_true h
  node_shape form.Call h xs m g = false_true h
  node_shape form.Postfix h xs m g = false_true h
  node_shape form.Unary h xs m g = false_true h
  node_shape form.Product h xs m g = false_true h
  node_shape form.Sum h xs m g = false_true h
  node_shape form.Shift h xs m g = false_true h
  node_shape form.Relation h xs m g = false_true h
  node_shape form.Equality h xs m g = false_true h
  node_shape form.BitAnd h xs m g = false_true h
  node_shape form.BitXor h xs m g = false_true h
  node_shape form.BitOr h xs m g = false_true h
  node_shape form.And h xs m g = false_true h
  node_shape form.Or h xs m g = false_true h
  node_shape form.Conditional h xs m g = false_true h
  node_shape form.Assignment h xs m g = false_true h

-- the shape of each statement
shape_has : (tokens : List (Token × Span)) (n : ℕ) (p : Part) → IsFormed tokens (suc n) p → Among [] statement_fs p → Has (ShapeGood tokens n) (shape_of p (inner (classes_of tokens) p))
shape_has tokens n p is h = go (out-Tree p.tree) refl
  where
    go : (x : Tree-F Tree) → out-Tree p.tree ≡ x → Has (ShapeGood tokens n) (shape_in (inner (classes_of tokens) p) (out-Tree p.tree))
    go (Tree-F.Leaf k) e = false_true (no_leaf tokens (suc n) [] statement_fs p k is h e)
    go (Tree-F.Node f ts) e =
        let i = inner_formed tokens n p f ts is e in
        subst (λ x. Has (ShapeGood tokens n) (shape_in (inner (classes_of tokens) p) x)) (sym e)
        (node_shape tokens n f (node_form tokens (suc n) [] statement_fs p f ts is h e) (inner (classes_of tokens) p) i.0 i.1)

module _ (tokens : List (Token × Span)) (n : ℕ) (place : Place) where
  locals_read : (o : Option Variables) → Maybe (VariablesGood tokens n) o → Is (locals_of tokens (classes_of tokens) n place o)
  locals_read None h = tt
  locals_read (Some v) h = variables_read tokens n place v h

  stated_is : (s : Shape) (parts : Option (List Statement)) → ShapeGood tokens n s → Is parts → Is (stated tokens (classes_of tokens) n place s.what s.locals s.values parts)
  unfolding stated
  stated_is s parts g h =
      has_on (λ x. Unit {0}) (λ x. Unit {0}) parts _ h (λ ps _.
      has_on (λ x. Unit {0}) (λ x. Unit {0}) (locals_of tokens (classes_of tokens) n place s.locals) _ (locals_read s.locals g.locals) (λ ls _.
      has_map (λ x. Unit {0}) _ (each (value tokens (classes_of tokens) n place) s.values) (values_read tokens n place s.values g.values)))

  piece_is : (read : Part → Option Statement) → ((p : Part) → StatementPart tokens n p → Is (read p)) → (x : Piece) → PieceGood tokens n x → Is (piece tokens (classes_of tokens) n place read x)
  piece_is read h (Whole p) g = h p g
  piece_is read h (Begin s) g = stated_is (simple_shape s) (Some []) (simple_good tokens n s g) tt
  piece_is read h (Case v) g = stated_is (plain kind.Case (v ∷ []) []) (Some []) (plain_good tokens n kind.Case (v ∷ []) [] (g, tt) tt) tt
  piece_is read h Default g = tt

-- each statement is read
pub statement_read : (tokens : List (Token × Span)) (n : ℕ) (place : Place) (p : Part) → StatementPart tokens n p → Is (statement tokens (classes_of tokens) n place p)
unfolding statement
statement_read tokens zero place p g = none_below _ g.0.deep
statement_read tokens (suc n) place p g =
    has_on (ShapeGood tokens n) (λ x. Unit {0}) (shape_of p (inner (classes_of tokens) p)) _ (shape_has tokens n p g.0 g.1)
    (λ s good. stated_is tokens n (place_of place p) s _ good
    ((each_is (PieceGood tokens n) (piece tokens (classes_of tokens) n (place_of place p) (statement tokens (classes_of tokens) n (place_of place p)))
    (λ x h. piece_is tokens n (place_of place p) (statement tokens (classes_of tokens) n (place_of place p)) (λ q k. statement_read tokens n (place_of place p) q k) x h) s.parts good.parts)))
