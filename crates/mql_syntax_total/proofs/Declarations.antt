-- What fits both a variable and a function is a function with named parts, too.
use Rattle.std.proofs.Common.{◌≡◌, ℕ, ◌+◌, Bool, true, false, ◌&&◌, List, [], ◌∷◌, ◌++◌, map, take, drop, Option, Some, None, is_some, refl, sym, ap, subst, ◌∙◌, inl, inr, if◌then◌else◌, append-nil}
use Rattle.std.specs.Prelude.{option_map}
use Rattle.mql_forms.specs.Numbers.{form_number}
use Rattle.mql_grammar.specs.Expression.{Expression, part, nothing, either, seq, many, among, Matches}
use Rattle.mql_grammar.specs.Expressions.{a, expr, args, maybe, in_order, dims, name as name_parts, pointed_alone, more_variables, var, function as function_parts}
use Rattle.mql_grammar.specs.Forms.{Head}
use Rattle.mql_grammar.specs.Numbers.{class_number}
use Rattle.mql_grammar.specs.declared.token_class.Class.{Class}
use Rattle.mql_grammar.specs.declared.token_class.Class.TheVariants as class
use Rattle.mql_grammar.proofs.Derivatives.{MatchesAll, Goes, firsts_all, goes_all}
use Rattle.mql_tree.specs.declared.token.Span.{Span}
use Rattle.mql_tree.specs.declared.token.Token.{Token}
use Rattle.mql_views.specs.Cuts.{on, is, must, sign, may, piece_end}
use Rattle.mql_views.specs.Laws.{heads}
use Rattle.mql_views.specs.Parts.{Part}
use Rattle.mql_views.specs.Values.{stars}
use Rattle.mql_views.specs.Declarations.{Typed, Title, Function, function_words, type_words, type_forms as grammar_forms, is_typed, scoped, param_typed, param, is_param, are_params, params_stand, function_params, function_named, function_typed, function_worded, function, variables}
use Rattle.mql_views.specs.Items.{Declaration, OfFunction, OfVariables, only_variables, declaration}
use Rattle.mql_views.proofs.Stands.{within, inside_head, away_head, avoids, edges_away, opened, all_of, cut_row, single_part, front_away, front_within}
use Rattle.mql_syntax.specs.Lists.{pieces, pieces_from}
use Rattle.mql_syntax_total.specs.Formed.{Every, IsFormed}
use Rattle.mql_syntax_total.proofs.Gives.{false_true, Has, Where, Among, Gives, every_among, must_gives, may_not_gives, flat_gives, up_to_gives, all_to_gives, has_map, partial_run}
use Rattle.mql_syntax_total.proofs.Types.{TypeGood}
use Rattle.mql_syntax_total.proofs.Values.{value_cs, value_fs}
use Rattle.mql_syntax_total.proofs.Variables.{If, NamePart, scoped_none, scoped_gives, joined, start_expression, VariablesGood, pointed_alone_gives, worded_gives}
use Rattle.mql_syntax_total.proofs.Functions.{ParamPiece, written, TitleGood, FunctionGood, where_if, without_bases, typed_not, pointed_typed, function_has}

-- words that no function begins with
stopped : (Q : Function → Type 0) (ds : List ℕ) (es : List Expression) → within ds (9 ∷ 10 ∷ 11 ∷ 12 ∷ []) ≡ true → edges_away (class_number class.DoubleColon ∷ []) [] (firsts_all (many (part ds []) ∷ es)) ≡ true
    → (ys : List Part) (x : Part) (zs : List Part) → Among ds [] x → MatchesAll (many (part ds []) ∷ es) (heads zs) → Where Q (function_worded ys (x ∷ zs))
unfolding function_worded function_typed function_named is_typed scoped is must may class_number form_number
stopped Q ds es h d ys x zs v m =
    subst (Where Q) (sym (
    ap (λ t. function_typed ys t.0 t.1) (typed_not (x ∷ zs) (untyped zs))
    ∙ ap (λ s. let d = may (class.Tilde ∷ []) s.1 in function_named ys None s.0 d.0 d.1) (unscoped zs m)
    ∙ ap (λ (b : Bool). let d : Bool × List Part = (if b then (true, zs) else (false, x ∷ zs)) in function_named ys None None d.0 d.1) (away_head (47 ∷ []) [] (9 ∷ 10 ∷ 11 ∷ 12 ∷ []) [] x.head refl refl word)
    ∙ ap (λ (b : Bool). let o : Option (Part × List Part) = (if b then Some (x, zs) else None) in on o (λ n. on (sign (class.OpenParen ∷ []) n.1) (function_params (record { words = ys; result = None; scope = None; destructor = false; name = n.0 })))) (away_head (0 ∷ 1 ∷ []) [] (9 ∷ 10 ∷ 11 ∷ 12 ∷ []) [] x.head refl refl word)
    )) tt
  where
    word : Among (9 ∷ 10 ∷ 11 ∷ 12 ∷ []) [] x
    word = inside_head (9 ∷ 10 ∷ 11 ∷ 12 ∷ []) [] ds [] x.head h refl v

    untyped : (zs : List Part) → is_typed (x ∷ zs) ≡ false
    untyped [] = refl
    untyped (s ∷ us) = ap (λ (b : Bool). b && is (class.Tilde ∷ stars ++ (class.Name ∷ class.TypeName ∷ [])) [] s) (away_head (1 ∷ 2 ∷ 3 ∷ []) (4 ∷ []) (9 ∷ 10 ∷ 11 ∷ 12 ∷ []) [] x.head refl refl word)

    unscoped : (zs : List Part) → MatchesAll (many (part ds []) ∷ es) (heads zs) → scoped (x ∷ zs) ≡ (None, x ∷ zs)
    unscoped [] m = refl
    unscoped (s ∷ us) m = ap (λ (b : Bool). if b then (Some x, us) else (None, x ∷ s ∷ us)) (front_away (class.DoubleColon ∷ []) (many (part ds []) ∷ es) d s us m)

-- values are no parameters
one_no_param : (x : Part) → Among value_cs value_fs x → is_param (x ∷ []) ≡ false
unfolding is_param param is must may param_typed class_number form_number
one_no_param x v =
    ap (λ (b : Bool). is_some (let c : Bool × List Part = (if b then (true, []) else (false, x ∷ [])) in on (must type_words grammar_forms c.1) (λ t. param_typed c.0 t.0 t.1))) (away_head (12 ∷ []) [] value_cs value_fs x.head refl refl v)
    ∙ go (is type_words grammar_forms x)
  where
    go : (b : Bool) → is_some (let o : Option (Part × List Part) = (if b then Some (x, []) else None) in on o (λ t. param_typed false t.0 t.1)) ≡ false
    go true = refl
    go false = refl

values_no_params : (x y : Part) (us : List Part) → Among value_cs value_fs x → Among (42 ∷ []) [] y → params_stand (x ∷ y ∷ us) ≡ false
unfolding params_stand are_params is class_number form_number
values_no_params x y us v w =
    ap (λ n. if is_param (take n (x ∷ y ∷ us)) then elim (drop n (x ∷ y ∷ us)) [ [] ↦ true | c ∷ ys ↦ are_params (y ∷ us) ys ] else false) ends
    ∙ ap (λ (b : Bool). if b then elim (y ∷ us) [ [] ↦ true | c ∷ ys ↦ are_params (y ∷ us) ys ] else false) (one_no_param x v)
  where
    step : (z : Part) (zs : List Part) → among (34 ∷ []) [] z.head ≡ false → among (36 ∷ []) [] z.head ≡ false → piece_end false (z ∷ zs) ≡ (if among (42 ∷ []) [] z.head then 0 else 1 + piece_end false zs)
    step z zs o c =
        ap (λ (b : Bool). if b then 1 + piece_end true zs else if is (class.CloseParen ∷ []) [] z then 1 + piece_end false zs else (if is (class.Comma ∷ []) [] z then 0 else 1 + piece_end false zs)) o
        ∙ ap (λ (b : Bool). if b then 1 + piece_end false zs else (if is (class.Comma ∷ []) [] z then 0 else 1 + piece_end false zs)) c

    ends : piece_end false (x ∷ y ∷ us) ≡ 1
    ends = step x (y ∷ us) (away_head (34 ∷ []) [] value_cs value_fs x.head refl refl v) (away_head (36 ∷ []) [] value_cs value_fs x.head refl refl v)
        ∙ ap (λ (b : Bool). if b then 0 else 1 + piece_end false (y ∷ us)) (away_head (42 ∷ []) [] value_cs value_fs x.head refl refl v)
        ∙ ap (λ n. 1 + n) (step y us (away_head (34 ∷ []) [] (42 ∷ []) [] y.head refl refl w) (away_head (36 ∷ []) [] (42 ∷ []) [] y.head refl refl w) ∙ ap (λ (b : Bool). if b then 0 else 1 + piece_end false us) w)

abbrev semicolon : List Expression
semicolon = a class.Semicolon ∷ []

abbrev others : Expression
others = many (in_order (a class.Comma ∷ maybe (a class.Star) ∷ var ∷ []))

module _ (tokens : List (Token × Span)) (n : ℕ) where
  abbrev Good : Part → Type 0
  Good p = IsFormed tokens n p

  no_params : (ps : List Part) → Matches (maybe args) (heads ps) → params_stand ps ≡ true → Every (ParamPiece tokens n) (pieces (written tokens n ps))
  unfolding pieces_from is class_number form_number
  no_params [] m e = tt
  no_params (x ∷ []) m e = tt
  no_params (x ∷ y ∷ us) (inl m) e = absurd (let f : x.head ∷ y.head ∷ heads us ≡ [] → ⊥ = λ e. cc in f m)
  no_params (x ∷ y ∷ us) (inr m) e =
      let rows = opened expr (many (in_order (a class.Comma ∷ expr ∷ []))) [] (heads (x ∷ y ∷ us)) (all_of args (heads (x ∷ y ∷ us)) m) in
      let r = cut_row expr (many (in_order (a class.Comma ∷ expr ∷ [])) ∷ []) (x ∷ y ∷ us) rows in
      let o = single_part expr refl r.0 r.3 in
      let v : Among value_cs value_fs o.0 = (subst (Every (Among value_cs value_fs)) o.1 (every_among value_cs value_fs expr refl r.0 r.3)).0 in
      let p : x ∷ y ∷ us ≡ o.0 ∷ r.1 = r.2 ∙ ap (λ ys. ys ++ r.1) o.1 in
      let w : Among (42 ∷ []) [] y = front_within (class.Comma ∷ []) [] (many (in_order (a class.Comma ∷ expr ∷ [])) ∷ []) refl y us (subst (λ zs. MatchesAll (many (in_order (a class.Comma ∷ expr ∷ [])) ∷ []) (heads zs)) (sym (tail_of x y us o.0 r.1 p)) r.4) in
      false_true (sym (values_no_params x y us (subst (Among value_cs value_fs) (sym (head_of x y us o.0 r.1 p)) v) w) ∙ e)
    where
      head_of : (x y : Part) (us : List Part) (z : Part) (zs : List Part) → x ∷ y ∷ us ≡ z ∷ zs → x ≡ z
      head_of x y us z zs e = cc

      tail_of : (x y : Part) (us : List Part) (z : Part) (zs : List Part) → x ∷ y ∷ us ≡ z ∷ zs → y ∷ us ≡ zs
      tail_of x y us z zs e = cc

  -- behind the name of a variable
  abbrev name_rows : List Expression
  name_rows = dims ∷ either nothing start_expression ∷ others ∷ semicolon

  params_where : (t : Title) → TitleGood tokens n t → Gives (Unit {0}) Good (FunctionGood tokens n) (function_params t) (maybe args ∷ a class.CloseParen ∷ others ∷ semicolon)
  unfolding function_params class_number form_number
  params_where t ht = up_to_gives class.CloseParen (maybe args) _ _ refl (λ ps m g. record {
    there = λ xs w f. where_if tokens n (FunctionGood tokens n) (params_stand ps) _ (λ ok. (without_bases tokens n (others ∷ semicolon) refl t ps ht (no_params ps m ok)).there xs w f);
  })

  paren_where : (t : Title) → TitleGood tokens n t → Gives (Unit {0}) Good (FunctionGood tokens n) (λ xs. on (sign (class.OpenParen ∷ []) xs) (function_params t)) name_rows
  unfolding sign is class_number form_number
  paren_where t ht = record { there = go }
    where
      behind : (h : Head) (xs : List Part) → among (34 ∷ []) [] h ≡ true → Goes MatchesAll (firsts_all name_rows) h (heads xs) → MatchesAll (seq (maybe args) (a class.CloseParen) ∷ others ∷ semicolon) (heads xs)
      behind h xs o (inl g) = false_true (sym (away_head (37 ∷ []) [] (34 ∷ []) [] h refl refl o) ∙ g.0)
      behind h xs o (inr (inl g)) = false_true (sym (away_head (66 ∷ []) [] (34 ∷ []) [] h refl refl o) ∙ g.0)
      behind h xs o (inr (inr (inl g))) = g.1
      behind h xs o (inr (inr (inr (inl g)))) = false_true (sym (away_head (42 ∷ []) [] (34 ∷ []) [] h refl refl o) ∙ g.0)
      behind h xs o (inr (inr (inr (inr (inl g))))) = false_true (sym (away_head (41 ∷ []) [] (34 ∷ []) [] h refl refl o) ∙ g.0)
      behind h xs o (inr (inr (inr (inr (inr g))))) = absurd g

      go : (xs : List Part) → MatchesAll name_rows (heads xs) → Every Good xs → Where (FunctionGood tokens n) (on (sign (class.OpenParen ∷ []) xs) (function_params t))
      go [] m g = tt
      go (x ∷ xs) m g = here (among (34 ∷ []) [] x.head) refl
        where
          here : (b : Bool) → among (34 ∷ []) [] x.head ≡ b → Where (FunctionGood tokens n) (on (if b then Some xs else None) (function_params t))
          here true e = (params_where t ht).there xs (opened (maybe args) (a class.CloseParen) (others ∷ semicolon) (heads xs) (behind x.head xs e (goes_all name_rows x.head (heads xs) m))) g.1
          here false e = tt

  named_where : (ws : List Part) (t : Option Typed) (s : Option Part) (d : Bool) → If (TypeGood tokens n) t → If (NamePart tokens n) s → Gives (Unit {0}) Good (FunctionGood tokens n) (function_named ws t s d) (name_parts ∷ name_rows)
  unfolding function_named class_number form_number
  named_where ws t s d ht hs = must_gives (class.Name ∷ class.TypeName ∷ []) [] _ _ _ _ refl refl (λ x v g.
      paren_where (record { words = ws; result = t; scope = s; destructor = d; name = x }) (record { result = ht; scope = hs; named = (g, v) }))

  titled_where : (ws : List Part) (t : Option Typed) → If (TypeGood tokens n) t → Gives (Unit {0}) Good (FunctionGood tokens n) (function_typed ws t) (more_variables ∷ semicolon)
  unfolding function_typed class_number form_number
  titled_where ws t ht = flat_gives _ _ _ (scoped_gives (λ s. let d = may (class.Tilde ∷ []) s.1 in function_named ws t s.0 d.0 d.1) (name_parts ∷ name_rows) (scoped_none (0 ∷ 1 ∷ []) [] name_rows refl)
      (λ o ho. may_not_gives (class.Tilde ∷ []) (λ d. function_named ws t o d.0 d.1) _ refl (named_where ws t o false ht ho)))

  worded_where : (ws : List Part) → Gives (Unit {0}) Good (FunctionGood tokens n) (function_worded ws) (pointed_alone ∷ more_variables ∷ semicolon)
  unfolding function_worded class_number form_number
  worded_where ws = pointed_typed (λ t. function_typed ws t.0 t.1) (more_variables ∷ semicolon) refl refl refl (λ t b v g. titled_where ws (Some (record { type = t; pointer = b })) (g, v))

  abbrev pub variable_rows : List ℕ → List Expression
  variable_rows ds = many (part ds []) ∷ pointed_alone ∷ more_variables ∷ semicolon

  -- variables that are seen as a function
  function_on_variables : (ds : List ℕ) → within ds (9 ∷ 10 ∷ 11 ∷ 12 ∷ []) ≡ true → edges_away (class_number class.DoubleColon ∷ []) [] (firsts_all (variable_rows ds)) ≡ true → Gives (Unit {0}) Good (FunctionGood tokens n) function (variable_rows ds)
  unfolding function class_number form_number
  function_on_variables ds h d = partial_run function_words ds (λ p. function_worded p.0 p.1) (pointed_alone ∷ more_variables ∷ semicolon) refl worded_where
      (λ ys x zs v e m. stopped (FunctionGood tokens n) ds (pointed_alone ∷ more_variables ∷ semicolon) h d ys x zs v m)

  -- variables
  only_variables_gives : (words : List Class) (ds : List ℕ) → within ds (map class_number words) ≡ true → edges_away (map class_number words) [] (firsts_all (pointed_alone ∷ more_variables ∷ [])) ≡ true
      → avoids (class_number class.Semicolon ∷ []) [] (seq (many (part ds [])) (seq pointed_alone more_variables)) ≡ true
      → Gives ⊥ Good (VariablesGood tokens n) (only_variables words) (variable_rows ds)
  unfolding only_variables class_number form_number
  only_variables_gives words ds h d v = record {
    there = λ xs m g.
        (all_to_gives class.Semicolon (seq (many (part ds [])) (seq pointed_alone more_variables)) (variables words) v one_declaration).there xs
        (joined (many (part ds [])) (seq pointed_alone more_variables) semicolon (heads xs) (m.0, m.1, m.2, m.3, joined pointed_alone more_variables semicolon m.1 m.4)) g;
  }
    where
      one_declaration : (ys : List Part) → Matches (seq (many (part ds [])) (seq pointed_alone more_variables)) (heads ys) → Every Good ys → Has (VariablesGood tokens n) (variables words ys)
      one_declaration ys m g =
          let r = opened (many (part ds [])) (seq pointed_alone more_variables) [] (heads ys) (all_of (seq (many (part ds [])) (seq pointed_alone more_variables)) (heads ys) m) in
          (worded_gives tokens n words ds (pointed_alone ∷ more_variables ∷ []) h d (pointed_alone_gives tokens n)).there ys (r.0, r.1, r.2, r.3, opened pointed_alone more_variables [] r.1 r.4) g

  abbrev pub DeclarationGood : Declaration → Type 0
  DeclarationGood (OfFunction f) = FunctionGood tokens n f
  DeclarationGood (OfVariables v) = VariablesGood tokens n v

  choose : (words : List Class) (xs : List Part) → Where (FunctionGood tokens n) (function xs) → Has (VariablesGood tokens n) (only_variables words xs) → Has DeclarationGood (declaration words xs)
  unfolding declaration
  choose words xs f v = go (function xs) f
    where
      go : (o : Option Function) → Where (FunctionGood tokens n) o → Has DeclarationGood (elim o [ Some f ↦ Some (OfFunction f) | None ↦ option_map OfVariables (only_variables words xs) ])
      go None h = has_map DeclarationGood OfVariables (only_variables words xs) v
      go (Some f) h = h

  pub declared_variables : (words : List Class) (ds : List ℕ) → within ds (map class_number words) ≡ true → edges_away (map class_number words) [] (firsts_all (pointed_alone ∷ more_variables ∷ [])) ≡ true
      → avoids (class_number class.Semicolon ∷ []) [] (seq (many (part ds [])) (seq pointed_alone more_variables)) ≡ true → within ds (9 ∷ 10 ∷ 11 ∷ 12 ∷ []) ≡ true
      → edges_away (class_number class.DoubleColon ∷ []) [] (firsts_all (variable_rows ds)) ≡ true → Gives ⊥ Good DeclarationGood (declaration words) (variable_rows ds)
  declared_variables words ds h d v i e = record { there = λ xs m g. choose words xs ((function_on_variables ds i e).there xs m g) ((only_variables_gives words ds h d v).there xs m g) }

  pub declared_function : (words : List Class) → Gives ⊥ Good DeclarationGood (declaration words) (function_parts ∷ [])
  unfolding declaration
  declared_function words = record { there = λ xs m g. go xs (function xs) (function_has tokens n xs (whole xs m) g) }
    where
      whole : (xs : List Part) → MatchesAll (function_parts ∷ []) (heads xs) → Matches function_parts (heads xs)
      whole xs m = subst (Matches function_parts) (sym (m.2 ∙ ap (λ us. m.0 ++ us) m.4 ∙ append-nil m.0)) m.3

      go : (xs : List Part) (o : Option Function) → Has (FunctionGood tokens n) o → Has DeclarationGood (elim o [ Some f ↦ Some (OfFunction f) | None ↦ option_map OfVariables (only_variables words xs) ])
      go xs None h = absurd h
      go xs (Some f) h = h
