-- Variables are read.
use Rattle.std.proofs.Common.{◌≡◌, ℕ, ◌+◌, Bool, true, false, List, [], ◌∷◌, ◌++◌, map, take, drop, length, Option, Some, None, refl, sym, ap, subst, ◌∙◌, inl, inr, if◌then◌else◌, append_assoc, append-nil, nat_eq}
use Rattle.std.specs.Prelude.{option_map}
use Rattle.mql_forms.specs.Numbers.{form_number}
use Rattle.mql_grammar.specs.Expression.{Expression, part, nothing, either, seq, many, among, Matches}
use Rattle.mql_grammar.specs.Expressions.{a, name as name_parts, args, init, dims, maybe, in_order, pointed, pointed_alone, one_of, scoped as scoped_parts, var, more_variables}
use Rattle.mql_grammar.specs.Forms.{Head, of_class, of_form}
use Rattle.mql_grammar.specs.Table.{listed}
use Rattle.mql_grammar.specs.Numbers.{class_number}
use Rattle.mql_grammar.specs.declared.token_class.Class.{Class}
use Rattle.mql_grammar.specs.declared.token_class.Class.TheVariants as class
use Rattle.mql_grammar.proofs.Derivatives.{MatchesAll, firsts_all, all_empty}
use Rattle.mql_parse.specs.Classes.{classes_of}
use Rattle.mql_tree.specs.declared.token.Span.{Span}
use Rattle.mql_tree.specs.declared.token.Token.{Token}
use Rattle.mql_views.specs.Cuts.{on, is, until, must, last, sign, all_to}
use Rattle.mql_views.specs.Laws.{heads}
use Rattle.mql_views.specs.Parts.{Part}
use Rattle.mql_views.specs.Values.{stars}
use Rattle.mql_views.specs.Declarations as views
use Rattle.mql_views.specs.Declarations.{Typed, type_words, type_forms as grammar_forms, scoped, start_of, variable_end, variables_typed}
use Rattle.mql_views.proofs.Stands.{within, avoids, all_away, AllAway, edges_away, flat, flattened, opened, all_of, cut_one, cut_row, front_away, nothing_left, one_suc}
use Rattle.mql_views.proofs.DeclarationForms.{until_is}
use Rattle.mql_syntax.specs.Lists.{each, maybe as maybe_read, pieces}
use Rattle.mql_syntax.specs.Leaves.{name}
use Rattle.mql_syntax.specs.Types.{type_use}
use Rattle.mql_syntax.specs.Values.{items, value}
use Rattle.mql_syntax.specs.Variables.{words_among, sizes_from, dimension, start, variable_of, variable_in, variable, variables}
use Rattle.mql_syntax.specs.declared.declaration.Words.{Words}
use Rattle.mql_syntax.specs.declared.kind.Place.{Place}
use Rattle.mql_syntax_total.specs.Formed.{Every, IsFormed}
use Rattle.mql_syntax_total.proofs.Gives.{Held, Has, every_take, every_drop, Among, Gives, every_among, front_among, sign_gives, must_gives, may_gives, maybe_gives, either_gives, flat_gives, seq_gives, map_gives, lone_gives, has_on, has_map, run_gives}
use Rattle.mql_syntax_total.proofs.Pieces.{Calm, calm_join, calm_nil, calm_of, calm_enclosed, pieces_are}
use Rattle.mql_syntax_total.proofs.Tokens.{Is}
use Rattle.mql_syntax_total.proofs.Types.{type_cs, type_fs, TypePart, among_more, each_is, type_read}
use Rattle.mql_syntax_total.proofs.Values.{value_cs, value_fs, name_cs, ValuePart, items_good, is_name, value_read}

-- [NAME "::"]: there is none where what is behind the first part begins otherwise
pub scoped_none : (ds gs : List ℕ) (es : List Expression) → edges_away (class_number class.DoubleColon ∷ []) [] (firsts_all es) ≡ true → (xs : List Part) → MatchesAll (part ds gs ∷ es) (heads xs) → scoped xs ≡ (None, xs)
unfolding scoped
scoped_none ds gs es d xs m = let r = cut_one ds gs es xs m in ap scoped r.2 ∙ go r.0 r.1 r.4 ∙ ap (λ xs. (None, xs)) (sym r.2)
  where
    go : (y : Part) (zs : List Part) → MatchesAll es (heads zs) → scoped (y ∷ zs) ≡ (None, y ∷ zs)
    go y [] m = refl
    go y (z ∷ zs) m = ap (λ (b : Bool). if b then (Some y, zs) else (None, y ∷ z ∷ zs)) (front_away (class.DoubleColon ∷ []) es d z zs m)

-- what is so of a part that is there
abbrev pub If : {A : Type 0} → (A → Type 0) → Option A → Type 0
If P None = Unit {0}
If P (Some x) = P x

pub scoped_gives : {B : Type 0} {N : Type 0} {G : Part → Type 0} {Q : B → Type 0} (k : Option Part × List Part → Option B) (es : List Expression) → ((xs : List Part) → MatchesAll es (heads xs) → scoped xs ≡ (None, xs))
    → ((o : Option Part) → If (λ p. G p × Among name_cs [] p) o → Gives N G Q (λ zs. k (o, zs)) es) → Gives N G Q (λ xs. k (scoped xs)) (scoped_parts ∷ es)
unfolding scoped is class_number
scoped_gives {N = N} {G = G} {Q = Q} k es none st = maybe_gives (λ xs. k (scoped xs)) (in_order (name_parts ∷ a class.DoubleColon ∷ [])) es
    (record { there = λ xs m g. subst (Held N Q) (sym (ap (λ p. k p) (none xs m))) ((st None tt).there xs m g) })
    (record {
      there = λ xs m g.
          let r = cut_one (0 ∷ 1 ∷ []) [] (a class.DoubleColon ∷ es) xs m in
          let c = cut_one (45 ∷ []) [] es r.1 r.4 in
          let p = r.2 ∙ ap (λ zs. r.0 ∷ zs) c.2 in
          let h = subst (Every G) p g in
          subst (Held N Q) (sym (ap (λ xs. k (scoped xs)) p ∙ ap (λ (b : Bool). k (if b then (Some r.0, c.1) else (None, r.0 ∷ c.0 ∷ c.1))) c.3))
          ((st (Some r.0) (h.0, r.3)).there c.1 c.4 h.1.1);
    })

-- two rows as one
pub joined : (d e : Expression) (es : List Expression) (hs : List Head) → MatchesAll (d ∷ e ∷ es) hs → MatchesAll (seq d e ∷ es) hs
joined d e es hs m = let n = m.4 in (m.0 ++ n.0, n.1, m.2 ∙ ap (λ us. m.0 ++ us) n.2 ∙ sym (append_assoc m.0 n.0 n.1), (m.0, n.0, refl, m.3, n.3), n.4)

-- up to what may stand behind
pub until_all : (cs : List Class) (xs : List Part) → AllAway (map class_number cs) [] (heads xs) → until cs [] xs ≡ length xs
unfolding is
until_all cs [] w = refl
until_all cs (x ∷ xs) w = ap (λ (b : Bool). if b then 0 else 1 + until cs [] xs) w.0 ∙ ap (λ n. 1 + n) (until_all cs xs w.1) ∙ one_suc (length xs)

pub take_length : (xs : List Part) → take (length xs) xs ≡ xs
take_length [] = refl
take_length (x ∷ xs) = ap (λ ys. x ∷ ys) (take_length xs)

pub drop_length : (xs : List Part) → drop (length xs) xs ≡ []
drop_length [] = refl
drop_length (x ∷ xs) = drop_length xs

abbrev pub start_expression : Expression
start_expression = one_of (
    in_order (a class.Assign ∷ init ∷ [])
    ∷ in_order (a class.OpenParen ∷ maybe args ∷ a class.CloseParen ∷ []) ∷ [])

module _ (tokens : List (Token × Span)) (n : ℕ) where
  abbrev Good : Part → Type 0
  Good p = IsFormed tokens n p

  abbrev pub NamePart : Part → Type 0
  NamePart p = IsFormed tokens n p × Among name_cs [] p

  abbrev StartGood : views.Start → Type 0
  StartGood views.Zero = Unit {0}
  StartGood (views.Value v) = ValuePart tokens n v
  StartGood (views.Arguments xs) = Every (ValuePart tokens n) (items xs)

  -- the named parts of a variable are what they are named
  pub record VariableGood (v : views.Variable) : Type 0 where
    pub scope : If NamePart v.scope
    pub named : NamePart v.name
    pub sizes : Every (If (ValuePart tokens n)) (sizes_from None v.dimensions)
    pub start : StartGood v.start

  -- the sizes in brackets
  sizes_good : (xs : List Part) (o : Option Part) → If (ValuePart tokens n) o → Every (Among (37 ∷ 38 ∷ value_cs) value_fs) xs → Every Good xs → Every (If (ValuePart tokens n)) (sizes_from o xs)
  unfolding is class_number
  sizes_good [] o h m g = tt
  sizes_good (x ∷ xs) o h m g = go (is (class.OpenBracket ∷ []) [] x) (is (class.CloseBracket ∷ []) [] x) refl refl (λ o h. sizes_good xs o h m.1 g.1)
    where
      not_first : (b y : Bool) → elim b [ true ↦ true | false ↦ y ] ≡ true → elim b [ true ↦ true | false ↦ false ] ≡ false → y ≡ true
      not_first true y h i = absurd (let f : true ≡ false → ⊥ = λ e. cc in f i)
      not_first false y h i = h

      other : (h : Head) → among (37 ∷ 38 ∷ value_cs) value_fs h ≡ true → among (37 ∷ []) [] h ≡ false → among (38 ∷ []) [] h ≡ false → among value_cs value_fs h ≡ true
      other (of_class c) h i j = not_first (nat_eq 38 c) (listed c value_cs) (not_first (nat_eq 37 c) (listed c (38 ∷ value_cs)) h i) j
      other (of_form f) h i j = h

      go : (b c : Bool) → is (class.OpenBracket ∷ []) [] x ≡ b → is (class.CloseBracket ∷ []) [] x ≡ c
          → ((o : Option Part) → If (ValuePart tokens n) o → Every (If (ValuePart tokens n)) (sizes_from o xs))
          → Every (If (ValuePart tokens n)) (if b then sizes_from None xs else if c then o ∷ sizes_from None xs else sizes_from (Some x) xs)
      go true c e f k = k None tt
      go false true e f k = (h, k None tt)
      go false false e f k = k (Some x) (g.0, other x.head m.0 e f)

  pub dims_good : (xs : List Part) → Matches dims (heads xs) → Every Good xs → Every (If (ValuePart tokens n)) (sizes_from None xs)
  unfolding class_number form_number
  dims_good xs m g = sizes_good xs None tt (every_among (37 ∷ 38 ∷ value_cs) value_fs dims refl xs m) g

  -- what a variable begins with
  start_value : Gives ⊥ Good StartGood start_of (a class.Assign ∷ init ∷ [])
  unfolding start_of is class_number form_number
  start_value = record {
    there = λ xs m g.
        let r = cut_one (66 ∷ []) [] (init ∷ []) xs m in
        let s = front_among value_cs value_fs init [] refl refl r.1 r.4 (subst (Every Good) r.2 g).1 in
        subst (Has StartGood) (sym (
        ap start_of r.2
        ∙ ap (λ (b : Bool). if b then option_map views.Value (last r.1) else on (sign (class.OpenParen ∷ []) (r.0 ∷ r.1)) (λ ys. option_map views.Arguments (all_to class.CloseParen ys))) r.3
        ∙ ap (λ zs. option_map views.Value (last zs)) (s.2 ∙ ap (λ zs. s.0 ∷ zs) (nothing_left s.1 s.4))
        )) (s.5, s.3);
  }

  arguments_rows : Gives ⊥ Good StartGood (λ xs. on (sign (class.OpenParen ∷ []) xs) (λ ys. option_map views.Arguments (all_to class.CloseParen ys))) (a class.OpenParen ∷ maybe args ∷ a class.CloseParen ∷ [])
  unfolding class_number form_number
  arguments_rows = sign_gives _ _ _ _ refl (map_gives _ _ _ (lone_gives class.CloseParen (maybe args) refl (λ ys m g. items_good tokens n (maybe args) refl ys m g)))

  start_arguments : Gives ⊥ Good StartGood start_of (a class.OpenParen ∷ maybe args ∷ a class.CloseParen ∷ [])
  unfolding start_of class_number form_number
  start_arguments = record { there = go }
    where
      go : (xs : List Part) → MatchesAll (a class.OpenParen ∷ maybe args ∷ a class.CloseParen ∷ []) (heads xs) → Every Good xs → Has StartGood (start_of xs)
      go [] m g = absurd (let f : false ≡ true → ⊥ = λ e. cc in f (all_empty (a class.OpenParen ∷ maybe args ∷ a class.CloseParen ∷ []) m))
      go (x ∷ xs) m g =
          subst (Has StartGood) (sym (ap (λ (b : Bool). if b then option_map views.Value (last xs) else on (sign (class.OpenParen ∷ []) (x ∷ xs)) (λ ys. option_map views.Arguments (all_to class.CloseParen ys)))
          (front_away (class.Assign ∷ []) (a class.OpenParen ∷ maybe args ∷ a class.CloseParen ∷ []) refl x xs m)))
          (arguments_rows.there (x ∷ xs) m g)

  start_gives : Gives ⊥ Good StartGood start_of (start_expression ∷ [])
  start_gives = either_gives _ _ _ _ (flat_gives _ _ _ start_value) (flat_gives _ _ _ start_arguments)

  -- dimensions, and what a variable begins with
  end_good : (p : Bool) (s : Option Part) (x : Part) → If NamePart s → NamePart x → (xs : List Part) (k : ℕ) → until (class.Assign ∷ class.OpenParen ∷ []) [] xs ≡ k → Every (If (ValuePart tokens n)) (sizes_from None (take k xs)) → Has StartGood (start_of (drop k xs))
      → Has VariableGood (variable_end p s x xs)
  unfolding variable_end
  end_good p s x hs hx xs k e d t = subst (λ k. Has VariableGood (option_map (λ e. record { pointer = p; scope = s; name = x; dimensions = take k xs; start = e }) (start_of (drop k xs)))) (sym e)
      (has_map VariableGood _ (start_of (drop k xs)) (has_lift (start_of (drop k xs)) t))
    where
      has_lift : (o : Option views.Start) → Has StartGood o → Has (λ b. VariableGood (record { pointer = p; scope = s; name = x; dimensions = take k xs; start = b })) o
      has_lift None h = absurd h
      has_lift (Some b) h = record { scope = hs; named = hx; sizes = d; start = h }

  end_gives : (p : Bool) (s : Option Part) (x : Part) → If NamePart s → NamePart x → Gives ⊥ Good VariableGood (variable_end p s x) (dims ∷ either nothing start_expression ∷ [])
  unfolding start_of class_number form_number
  end_gives p s x hs hx = record {
    there = λ xs m g.
        (elim m.4.3 as (λ o. Has VariableGood (variable_end p s x xs)) [
          | inl e ↦
              let mine : Matches dims (heads xs) = subst (Matches dims) (sym (m.2 ∙ ap (λ us. m.0 ++ us) (m.4.2 ∙ ap (λ us. us ++ m.4.1) e ∙ m.4.4) ∙ append-nil m.0)) m.3 in
              end_good p s x hs hx xs (length xs) (until_all (class.Assign ∷ class.OpenParen ∷ []) xs (all_away (66 ∷ 34 ∷ []) [] dims refl (heads xs) mine))
              (subst (λ ys. Every (If (ValuePart tokens n)) (sizes_from None ys)) (sym (take_length xs)) (dims_good xs mine g))
              (subst (λ ys. Has StartGood (start_of ys)) (sym (drop_length xs)) tt)
          | inr w ↦
              let u = until_is (class.Assign ∷ class.OpenParen ∷ []) [] dims (start_expression ∷ []) refl refl refl xs (m.0, m.1, m.2, m.3, (m.4.0, m.4.1, m.4.2, w, m.4.4)) in
              let k = until (class.Assign ∷ class.OpenParen ∷ []) [] xs in
              end_good p s x hs hx xs k refl
              (subst (λ ys. Every (If (ValuePart tokens n)) (sizes_from None ys)) (sym u.2) (dims_good u.0 u.4 (subst (Every Good) u.2 (every_take Good k xs g))))
              (subst (λ ys. Has StartGood (start_of ys)) (sym u.3) (start_gives.there u.1 u.5 (subst (Every Good) u.3 (every_drop Good k xs g))))
        ]);
  }

  -- a variable, before which a `*` may stand
  variable_gives : (ds : List ℕ) → within ds (50 ∷ 51 ∷ []) ≡ true → Gives ⊥ Good VariableGood views.variable (either nothing (part ds []) ∷ flat var [])
  unfolding views.variable class_number form_number
  variable_gives ds h = may_gives stars ds (λ p. let s = scoped p.1 in on (must (class.Name ∷ class.TypeName ∷ []) [] s.1) (λ n. variable_end p.0 s.0 n.0 n.1)) _ h refl (λ p.
      scoped_gives (λ s. on (must (class.Name ∷ class.TypeName ∷ []) [] s.1) (λ n. variable_end p s.0 n.0 n.1)) _ (scoped_none (0 ∷ 1 ∷ []) [] (dims ∷ either nothing start_expression ∷ []) refl) (λ s hs.
      must_gives (class.Name ∷ class.TypeName ∷ []) [] _ _ _ _ refl refl (λ x v g. end_gives p s x hs (g, v))))

  -- the pieces of a declaration are variables
  abbrev pub VariablePiece : List Part → Type 0
  VariablePiece ys = Has VariableGood (views.variable ys)

  abbrev starred : List ℕ → Expression
  starred ds = seq (either nothing (part ds [])) var

  piece_good : (ds : List ℕ) → within ds (50 ∷ 51 ∷ []) ≡ true → (ys : List Part) → Matches (starred ds) (heads ys) → Every Good ys → VariablePiece ys
  piece_good ds h ys m g = (variable_gives ds h).there ys (flattened (starred ds) [] (heads ys) (all_of (starred ds) (heads ys) m)) g

  abbrev behind_name : Expression
  behind_name = either nothing start_expression

  calm_behind : (ys : List Part) → Matches behind_name (heads ys) → Calm ys
  unfolding class_number form_number
  calm_behind ys (inl e) = subst Calm (sym (nothing_left ys e)) calm_nil
  calm_behind ys (inr (inl m)) = calm_of (in_order (a class.Assign ∷ init ∷ [])) refl refl refl ys m
  calm_behind ys (inr (inr m)) = calm_enclosed (maybe args) refl ys (flattened (in_order (a class.OpenParen ∷ maybe args ∷ a class.CloseParen ∷ [])) [] (heads ys) (all_of (in_order (a class.OpenParen ∷ maybe args ∷ a class.CloseParen ∷ [])) (heads ys) m))

  -- no piece ends in a variable
  abbrev front_of : List ℕ → Expression
  front_of ds = seq (either nothing (part ds [])) (seq scoped_parts (seq name_parts dims))

  calm_variable : (ds : List ℕ) → avoids (42 ∷ []) [] (front_of ds) ≡ true → avoids (34 ∷ []) [] (front_of ds) ≡ true → avoids (36 ∷ []) [] (front_of ds) ≡ true → (ys : List Part) → Matches (starred ds) (heads ys) → Calm ys
  unfolding class_number form_number
  calm_variable ds c o d ys m =
      let f = flattened (starred ds) [] (heads ys) (all_of (starred ds) (heads ys) m) in
      let r = cut_row (front_of ds) (behind_name ∷ []) ys (fronted (heads ys) f) in
      let b = cut_row behind_name [] r.1 r.4 in
      let e : r.1 ≡ b.0 = b.2 ∙ ap (λ us. b.0 ++ us) (nothing_left b.1 b.4) ∙ append-nil b.0 in
      subst Calm (sym r.2) (calm_join r.0 r.1 (calm_of (front_of ds) c o d r.0 r.3) (subst Calm (sym e) (calm_behind b.0 b.3)))
    where
      fronted : (hs : List Head) → MatchesAll (either nothing (part ds []) ∷ scoped_parts ∷ name_parts ∷ dims ∷ behind_name ∷ []) hs → MatchesAll (front_of ds ∷ behind_name ∷ []) hs
      fronted hs m = joined (either nothing (part ds [])) (seq scoped_parts (seq name_parts dims)) (behind_name ∷ []) hs
          (m.0, m.1, m.2, m.3, joined scoped_parts (seq name_parts dims) (behind_name ∷ []) m.1 (m.4.0, m.4.1, m.4.2, m.4.3, joined name_parts dims (behind_name ∷ []) m.4.1 m.4.4))

  -- what stands behind the type
  pub items_pieces : (ds : List ℕ) → within ds (50 ∷ 51 ∷ []) ≡ true → avoids (42 ∷ []) [] (front_of ds) ≡ true → avoids (34 ∷ []) [] (front_of ds) ≡ true → avoids (36 ∷ []) [] (front_of ds) ≡ true
      → (xs : List Part) → MatchesAll (either nothing (part ds []) ∷ more_variables ∷ []) (heads xs) → Every Good xs → Every VariablePiece (pieces xs)
  unfolding class_number form_number
  items_pieces ds h c o d xs m g =
      pieces_are Good VariablePiece (starred ds) (starred (50 ∷ [])) (calm_variable ds c o d) (calm_variable (50 ∷ []) refl refl refl) (piece_good ds h) (piece_good (50 ∷ []) refl) xs
      (joined (either nothing (part ds [])) var (many (seq (a class.Comma) (starred (50 ∷ []))) ∷ []) (heads xs) (m.0, m.1, m.2, m.3, opened var (many (seq (a class.Comma) (starred (50 ∷ [])))) [] m.1 m.4)) g

  -- variables of a type
  pub record VariablesGood (v : views.Variables) : Type 0 where
    pub typed : TypePart tokens n v.type
    pub variables : Every VariablePiece (pieces v.items)

  typed_gives : (ws : List Part) (ds gs ss : List ℕ) → within ds (1 ∷ 2 ∷ 3 ∷ []) ≡ true → within gs (4 ∷ []) ≡ true → within ss (50 ∷ 51 ∷ []) ≡ true
      → avoids (42 ∷ []) [] (front_of ss) ≡ true → avoids (34 ∷ []) [] (front_of ss) ≡ true → avoids (36 ∷ []) [] (front_of ss) ≡ true
      → Gives ⊥ Good VariablesGood (variables_typed ws) (part ds gs ∷ either nothing (part ss []) ∷ more_variables ∷ [])
  unfolding variables_typed class_number form_number
  typed_gives ws ds gs ss h i j c o d = must_gives type_words grammar_forms ds gs _ _ h i (λ t v g. record {
    there = λ zs m f. record {
      typed = (g, among_more type_cs type_fs (1 ∷ 2 ∷ 3 ∷ []) (4 ∷ []) t refl refl (among_more (1 ∷ 2 ∷ 3 ∷ []) (4 ∷ []) ds gs t h i v));
      variables = items_pieces ss j c o d zs m f;
    };
  })

  pub pointed_gives : (ws : List Part) → Gives ⊥ Good VariablesGood (variables_typed ws) (pointed ∷ more_variables ∷ [])
  unfolding class_number form_number
  pointed_gives ws = either_gives _ _ _ _
      (seq_gives _ _ _ _ (typed_gives ws _ _ _ refl refl refl refl refl refl))
      (seq_gives _ _ _ _ (typed_gives ws _ _ _ refl refl refl refl refl refl))

  pub pointed_alone_gives : (ws : List Part) → Gives ⊥ Good VariablesGood (variables_typed ws) (pointed_alone ∷ more_variables ∷ [])
  unfolding class_number form_number
  pointed_alone_gives ws = either_gives _ _ _ _
      (seq_gives _ _ _ _ (typed_gives ws _ _ _ refl refl refl refl refl refl))
      (seq_gives _ _ _ _ (typed_gives ws _ _ _ refl refl refl refl refl refl))

  -- the words before the type
  pub worded_gives : (words : List Class) (ds : List ℕ) (es : List Expression) → within ds (map class_number words) ≡ true → edges_away (map class_number words) [] (firsts_all es) ≡ true
      → ((ws : List Part) → Gives ⊥ Good VariablesGood (variables_typed ws) es) → Gives ⊥ Good VariablesGood (views.variables words) (many (part ds []) ∷ es)
  unfolding views.variables
  worded_gives words ds es h d st = run_gives words ds (λ p. variables_typed p.0 p.1) es h d st

-- variables are read
module _ (tokens : List (Token × Span)) (n : ℕ) (place : Place) where
  pub size_read : (o : Option Part) → If (ValuePart tokens n) o → Is (dimension tokens (classes_of tokens) n place o)
  size_read None h = tt
  size_read (Some p) h = has_map (λ x. Unit {0}) _ (value tokens (classes_of tokens) n place p) (value_read tokens n place p h)

  pub values_read : (ps : List Part) → Every (ValuePart tokens n) ps → Is (each (value tokens (classes_of tokens) n place) ps)
  values_read ps g = (each_is (ValuePart tokens n) (value tokens (classes_of tokens) n place) (λ p g. value_read tokens n place p g) ps g)

  pub start_read : (s : views.Start) → StartGood tokens n s → Is (start tokens (classes_of tokens) n place s)
  unfolding start
  start_read views.Zero h = tt
  start_read (views.Value v) h = has_map (λ x. Unit {0}) _ (value tokens (classes_of tokens) n place v) (value_read tokens n place v h)
  start_read (views.Arguments xs) h = has_map (λ x. Unit {0}) _ (each (value tokens (classes_of tokens) n place) (items xs)) (values_read (items xs) h)

  pub scope_read : (o : Option Part) → If (λ p. IsFormed tokens n p × Among name_cs [] p) o → Is (maybe_read (name tokens) o)
  scope_read None h = tt
  scope_read (Some p) h = has_map (λ x. Unit {0}) _ (name tokens p) (is_name tokens n p h)

  variable_read : (words : Words) (t : Part) (v : views.Variable) → TypePart tokens n t → VariableGood tokens n v → Is (variable_in tokens (classes_of tokens) n place words t v)
  unfolding variable_of
  variable_read words t v ty g =
      has_on (λ x. Unit {0}) (λ x. Unit {0}) (maybe_read (name tokens) v.scope) _ (scope_read v.scope g.scope) (λ c _.
      has_on (λ x. Unit {0}) (λ x. Unit {0}) (name tokens v.name) _ (is_name tokens n v.name g.named) (λ m _.
      has_on (λ x. Unit {0}) (λ x. Unit {0}) (type_use tokens (classes_of tokens) n place (record { type = t; pointer = v.pointer })) _ (type_read tokens n place (record { type = t; pointer = v.pointer }) ty) (λ u _.
      has_on (λ x. Unit {0}) (λ x. Unit {0}) (each (dimension tokens (classes_of tokens) n place) (sizes_from None v.dimensions)) _
      ((each_is (If (ValuePart tokens n)) (dimension tokens (classes_of tokens) n place) size_read (sizes_from None v.dimensions) g.sizes)) (λ ds _.
      has_map (λ x. Unit {0}) _ (start tokens (classes_of tokens) n place v.start) (start_read v.start g.start)))))

  pub variables_read : (v : views.Variables) → VariablesGood tokens n v → Is (variables tokens (classes_of tokens) n place v)
  unfolding variables variable
  variables_read v g =
      (each_is (VariablePiece tokens n) (variable tokens (classes_of tokens) n place (words_among v.words) v.type)
      (λ xs h. has_on (VariableGood tokens n) (λ x. Unit {0}) (views.variable xs) _ h (λ w k. variable_read (words_among v.words) v.type w g.typed k)) (pieces v.items) g.variables)
