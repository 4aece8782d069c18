-- The named parts of enumerations, classes, members and templates are what they are named.
use Rattle.std.proofs.Common.{◌≡◌, ℕ, suc, Bool, true, false, List, [], ◌∷◌, ◌++◌, Option, Some, None, refl, sym, ap, subst, ◌∙◌, inl, inr, if◌then◌else◌, append_assoc, append-nil}
use Rattle.std.specs.Prelude.{option_map}
use Rattle.mql_forms.specs.Numbers.{form_number}
use Rattle.mql_forms.specs.declared.form.Form.TheVariants as form
use Rattle.mql_grammar.specs.Expression.{Expression, part, nothing, either, seq, many, among, IsOne, Matches}
use Rattle.mql_grammar.specs.Expressions.{a, a_token, a_node, one, one_of, maybe, in_order, list_of, names, name as name_parts, given, pointed_alone, more_variables, variables as variables_parts, template_head as head_parts, function as function_parts, enumeration_parts, class_parts, member_parts, template_parts, item_parts}
use Rattle.mql_grammar.specs.Forms.{Head}
use Rattle.mql_grammar.specs.Numbers.{class_number}
use Rattle.mql_grammar.specs.Table.{listed, both}
use Rattle.mql_grammar.specs.declared.token_class.Class.TheVariants as class
use Rattle.mql_grammar.proofs.Derivatives.{MatchesAll, firsts_all, nullable_all, all_empty}
use Rattle.mql_tree.specs.declared.token.Span.{Span}
use Rattle.mql_tree.specs.declared.token.Token.{Token}
use Rattle.mql_views.specs.Cuts.{on, is, must, next, sign, ended, may_be, up_to}
use Rattle.mql_views.specs.Laws.{heads}
use Rattle.mql_views.specs.Parts.{Part}
use Rattle.mql_views.specs.Declarations.{Enumerator, Enumeration, Parent, Class', preset_of, enumerator, braced, enumeration, parent_behind, parent_cut, class_end, class_behind, class_of, Function, function, store_words, local_words}
use Rattle.mql_views.specs.Items.{Declaration, OfFunction, declaration, Item, Group, Declares, group, item, template_head, lone_class, Templated, TemplatedClass, TemplatedFunction, templated, Template, template, Member, member, member_template}
use Rattle.mql_views.proofs.Stands.{inside_head, avoids, edges_away, flat, flattened, opened, all_of, cut_one, front_away, nothing_left, on_on}
use Rattle.mql_syntax.specs.Lists.{pieces, without}
use Rattle.mql_syntax_total.specs.Formed.{Every, IsFormed}
use Rattle.mql_syntax_total.proofs.Gives.{false_true, Held, Has, Among, Gives, every_among, front_among, sign_gives, must_gives, none_gives, ended_gives, maybe_gives, either_gives, flat_gives, seq_gives, map_gives, more_gives, same_gives, up_to_gives, has_map, every_both}
use Rattle.mql_syntax_total.proofs.Pieces.{Calm, calm_of, pieces_to, without_among}
use Rattle.mql_syntax_total.proofs.Statements.{seconds_away, second_part}
use Rattle.mql_syntax_total.proofs.Types.{type_cs, type_fs, TypePart, among_more}
use Rattle.mql_syntax_total.proofs.Values.{name_cs, ValuePart}
use Rattle.mql_syntax_total.proofs.Variables.{If, NamePart, joined}
use Rattle.mql_syntax_total.proofs.Functions.{preset_some, FunctionGood, function_has}
use Rattle.mql_syntax_total.proofs.Declarations.{variable_rows, DeclarationGood, declared_variables, declared_function}

module _ (tokens : List (Token × Span)) (n : ℕ) where
  abbrev Good : Part → Type 0
  Good p = IsFormed tokens n p

  -- what stands in braces with a `;` behind them
  braced_gives : (Q : List Part → Type 0) (e : Expression) → avoids (class_number class.CloseBrace ∷ []) [] e ≡ true → ((ys : List Part) → Matches e (heads ys) → Every Good ys → Q ys)
      → Gives ⊥ Good Q braced (a class.OpenBrace ∷ e ∷ a class.CloseBrace ∷ a class.Semicolon ∷ [])
  unfolding braced class_number
  braced_gives Q e h q = sign_gives _ _ _ _ refl (up_to_gives class.CloseBrace e _ _ h (λ ys m g. sign_gives _ _ _ _ refl (ended_gives _ (q ys m g))))

  -- enumerations
  pub record EnumeratorGood (e : Enumerator) : Type 0 where
    pub named : NamePart tokens n e.name
    pub value : If (ValuePart tokens n) e.value

  given_gives : Gives ⊥ Good (If (ValuePart tokens n)) preset_of (given ∷ [])
  unfolding preset_of
  given_gives = maybe_gives _ _ _ (none_gives _ tt) (preset_some tokens n)

  enumerator_gives : Gives ⊥ Good EnumeratorGood enumerator (name_parts ∷ given ∷ [])
  unfolding enumerator class_number form_number
  enumerator_gives = must_gives names [] _ _ _ _ refl refl (λ x v g. map_gives _ preset_of _ (more_gives (If (ValuePart tokens n)) preset_of _ (λ e h. record { named = (g, v); value = h }) given_gives))

  abbrev pub EnumeratorPiece : List Part → Type 0
  EnumeratorPiece ys = Has EnumeratorGood (enumerator ys)

  abbrev member_of_enumeration : Expression
  member_of_enumeration = in_order (name_parts ∷ given ∷ [])

  enumerators_good : (ys : List Part) → Matches (seq (list_of member_of_enumeration) (maybe (a class.Comma))) (heads ys) → Every Good ys → Every EnumeratorPiece (pieces ys)
  unfolding class_number form_number
  enumerators_good ys m g =
      let x = opened (list_of member_of_enumeration) (maybe (a class.Comma)) [] (heads ys) (all_of (seq (list_of member_of_enumeration) (maybe (a class.Comma))) (heads ys) m) in
      pieces_to Good EnumeratorPiece member_of_enumeration member_of_enumeration calm calm piece piece ys
      (opened member_of_enumeration (many (in_order (a class.Comma ∷ member_of_enumeration ∷ []))) (maybe (a class.Comma) ∷ []) (heads ys) x) g
    where
      calm : (ys : List Part) → Matches member_of_enumeration (heads ys) → Calm ys
      calm = calm_of member_of_enumeration refl refl refl

      piece : (ys : List Part) → Matches member_of_enumeration (heads ys) → Every Good ys → EnumeratorPiece ys
      piece ys m g = enumerator_gives.there ys (flattened member_of_enumeration [] (heads ys) (all_of member_of_enumeration (heads ys) m)) g

  pub record EnumerationGood (e : Enumeration) : Type 0 where
    pub named : NamePart tokens n e.name
    pub values : Every EnumeratorPiece (pieces e.values)

  abbrev enumeration_rest : Expression
  enumeration_rest = in_order (a class.OpenBrace ∷ list_of member_of_enumeration ∷ maybe (a class.Comma) ∷ a class.CloseBrace ∷ a class.Semicolon ∷ [])

  enumeration_braces : Gives ⊥ Good (λ vs. Every EnumeratorPiece (pieces vs)) braced (enumeration_rest ∷ [])
  unfolding class_number form_number
  enumeration_braces = record {
    there = λ xs m g.
        let w = opened (a class.OpenBrace) (in_order (list_of member_of_enumeration ∷ maybe (a class.Comma) ∷ a class.CloseBrace ∷ a class.Semicolon ∷ [])) [] (heads xs) m in
        let x = opened (list_of member_of_enumeration) (in_order (maybe (a class.Comma) ∷ a class.CloseBrace ∷ a class.Semicolon ∷ [])) [] w.1 w.4 in
        let y = opened (maybe (a class.Comma)) (in_order (a class.CloseBrace ∷ a class.Semicolon ∷ [])) [] x.1 x.4 in
        let z = opened (a class.CloseBrace) (a class.Semicolon) [] y.1 y.4 in
        (braced_gives (λ vs. Every EnumeratorPiece (pieces vs)) (seq (list_of member_of_enumeration) (maybe (a class.Comma))) refl enumerators_good).there xs
        (w.0, w.1, w.2, w.3, joined (list_of member_of_enumeration) (maybe (a class.Comma)) (a class.CloseBrace ∷ a class.Semicolon ∷ []) w.1 (x.0, x.1, x.2, x.3, (y.0, y.1, y.2, y.3, z))) g;
  }

  enumeration_gives : Gives ⊥ Good EnumerationGood enumeration (enumeration_parts ∷ [])
  unfolding enumeration class_number form_number
  enumeration_gives = seq_gives _ _ _ _ (sign_gives _ _ _ _ refl (seq_gives _ _ _ _ (must_gives names [] _ _ _ _ refl refl (λ x v g.
      map_gives _ braced _ (more_gives (λ vs. Every EnumeratorPiece (pieces vs)) braced _ (λ vs h. record { named = (g, v); values = h }) enumeration_braces)))))

  pub enumeration_has : (xs : List Part) → Matches enumeration_parts (heads xs) → Every Good xs → Has EnumerationGood (enumeration xs)
  enumeration_has xs m g = enumeration_gives.there xs (all_of enumeration_parts (heads xs) m) g

  -- classes
  pub record ParentGood (p : Parent) : Type 0 where
    pub access : If (λ x. IsFormed tokens n x × Among (17 ∷ []) [] x) p.access
    pub typed : TypePart tokens n p.type

  abbrev pub MembersGood : List Part → Type 0
  MembersGood xs = Every (λ p. IsFormed tokens n p × Among (17 ∷ 44 ∷ []) (8 ∷ []) p) xs

  pub record ClassGood (c : Class') : Type 0 where
    pub kind : IsFormed tokens n c.kind × Among (16 ∷ []) [] c.kind
    pub named : NamePart tokens n c.name
    pub parent : If ParentGood c.parent
    pub members : If MembersGood c.members

  abbrev members : Expression
  members = many (one_of (in_order (a class.Access ∷ a class.Colon ∷ []) ∷ a_node form.Member ∷ []))

  abbrev class_rows : List Expression
  class_rows = a class.OpenBrace ∷ members ∷ a class.CloseBrace ∷ a class.Semicolon ∷ []

  members_gives : Gives ⊥ Good MembersGood braced class_rows
  unfolding class_number form_number
  members_gives = braced_gives MembersGood members refl (λ ys m g. every_both Good (Among (17 ∷ 44 ∷ []) (8 ∷ [])) ys g (every_among (17 ∷ 44 ∷ []) (8 ∷ []) members refl ys m))

  abbrev parents : Expression
  parents = in_order (a class.Colon ∷ maybe (a class.Access) ∷ one names (form.GenericType ∷ form.GenericFunction ∷ []) ∷ [])

  parent_none : (es : List Expression) → edges_away (class_number class.Colon ∷ []) [] (firsts_all es) ≡ true → (xs : List Part) → MatchesAll es (heads xs) → parent_cut xs ≡ Some (None, xs)
  unfolding parent_cut
  parent_none es d [] m = refl
  parent_none es d (x ∷ xs) m = ap (λ (b : Bool). if b then parent_behind (may_be (class.Access ∷ []) xs) else Some (None, x ∷ xs)) (front_away (class.Colon ∷ []) es d x xs m)

  abbrev with_members : Part → Part → Option Parent × List Part → Option Class'
  with_members k x p = option_map (λ ms. record { kind = k; name = x; parent = p.0; members = Some ms }) (braced p.1)

  members_behind : (k x : Part) → IsFormed tokens n k × Among (16 ∷ []) [] k → NamePart tokens n x → (p : Option Parent) → If ParentGood p → Gives ⊥ Good ClassGood (λ zs. with_members k x (p, zs)) class_rows
  members_behind k x hk hx p hp = map_gives _ braced _ (more_gives MembersGood braced _ (λ ms h. record { kind = hk; named = hx; parent = hp; members = h }) members_gives)

  parent_typed : (k x : Part) → IsFormed tokens n k × Among (16 ∷ []) [] k → NamePart tokens n x → (o : Option Part) → If (λ x. IsFormed tokens n x × Among (17 ∷ []) [] x) o
      → Gives ⊥ Good ClassGood (λ zs. on (parent_behind (o, zs)) (with_members k x)) (one names (form.GenericType ∷ form.GenericFunction ∷ []) ∷ class_rows)
  unfolding parent_behind must is class_number form_number
  parent_typed k x hk hx o ho = record {
    there = λ xs m g.
        let r = cut_one (0 ∷ 1 ∷ []) (4 ∷ 21 ∷ []) class_rows xs m in
        let own = subst (Every Good) r.2 g in
        subst (Has ClassGood) (sym (
        ap (λ xs. on (parent_behind (o, xs)) (with_members k x)) r.2
        ∙ ap (λ (b : Bool). on (option_map (λ (t : Part × List Part). (Some (record { access = o; type = t.0 }), t.1)) (if b then Some (r.0, r.1) else None)) (with_members k x)) r.3
        ))
        ((members_behind k x hk hx (Some (record { access = o; type = r.0 })) (record { access = ho; typed = (own.0, among_more type_cs type_fs (0 ∷ 1 ∷ []) (4 ∷ 21 ∷ []) r.0 refl refl r.3) })).there r.1 r.4 own.1);
  }

  parent_so : (k x : Part) → IsFormed tokens n k × Among (16 ∷ []) [] k → NamePart tokens n x → Gives ⊥ Good ClassGood (λ xs. on (parent_cut xs) (with_members k x)) (flat parents class_rows)
  unfolding parent_cut is may_be class_number form_number
  parent_so k x hk hx = record {
    there = λ xs m g.
        let r = cut_one (44 ∷ []) [] (maybe (a class.Access) ∷ one names (form.GenericType ∷ form.GenericFunction ∷ []) ∷ class_rows) xs m in
        subst (Has ClassGood) (sym (
        ap (λ xs. on (parent_cut xs) (with_members k x)) r.2
        ∙ ap (λ (b : Bool). on (if b then parent_behind (may_be (class.Access ∷ []) r.1) else Some (None, r.0 ∷ r.1)) (with_members k x)) r.3
        )) (access_gives.there r.1 r.4 (subst (Every Good) r.2 g).1);
  }
    where
      no_access : (xs : List Part) → MatchesAll (one names (form.GenericType ∷ form.GenericFunction ∷ []) ∷ class_rows) (heads xs) → may_be (class.Access ∷ []) xs ≡ (None, xs)
      no_access [] m = refl
      no_access (x ∷ xs) m = ap (λ (b : Bool). if b then (Some x, xs) else (None, x ∷ xs)) (front_away (class.Access ∷ []) (one names (form.GenericType ∷ form.GenericFunction ∷ []) ∷ class_rows) refl x xs m)

      access_gives : Gives ⊥ Good ClassGood (λ xs. on (parent_behind (may_be (class.Access ∷ []) xs)) (with_members k x)) (maybe (a class.Access) ∷ one names (form.GenericType ∷ form.GenericFunction ∷ []) ∷ class_rows)
      access_gives = maybe_gives _ _ _
          (record { there = λ xs m g. subst (Has ClassGood) (sym (ap (λ p. on (parent_behind p) (with_members k x)) (no_access xs m))) ((parent_typed k x hk hx None tt).there xs m g) })
          (record {
            there = λ xs m g.
                let r = cut_one (17 ∷ []) [] (one names (form.GenericType ∷ form.GenericFunction ∷ []) ∷ class_rows) xs m in
                let own = subst (Every Good) r.2 g in
                subst (Has ClassGood) (sym (
                ap (λ xs. on (parent_behind (may_be (class.Access ∷ []) xs)) (with_members k x)) r.2
                ∙ ap (λ (b : Bool). on (parent_behind (if b then (Some r.0, r.1) else (None, r.0 ∷ r.1))) (with_members k x)) r.3
                )) ((parent_typed k x hk hx (Some r.0) (own.0, r.3)).there r.1 r.4 own.1);
          })

  class_end_gives : (k x : Part) → IsFormed tokens n k × Among (16 ∷ []) [] k → NamePart tokens n x → Gives ⊥ Good ClassGood (class_end k x) (maybe parents ∷ class_rows)
  unfolding class_end class_number form_number
  class_end_gives k x hk hx = maybe_gives (λ xs. on (parent_cut xs) (with_members k x)) parents class_rows
      (record { there = λ xs m g. subst (Has ClassGood) (sym (ap (λ o. on o (with_members k x)) (parent_none class_rows refl xs m))) ((members_behind k x hk hx None tt).there xs m g) })
      (parent_so k x hk hx)

  class_announced : (k x : Part) → IsFormed tokens n k × Among (16 ∷ []) [] k → NamePart tokens n x → Gives ⊥ Good ClassGood (class_behind k x) (a class.Semicolon ∷ [])
  unfolding class_behind is class_number
  class_announced k x hk hx = record {
    there = λ xs m g.
        let r = cut_one (41 ∷ []) [] [] xs m in
        subst (Has ClassGood) (sym (ap (λ xs. class_behind k x xs) r.2 ∙ ap (λ (b : Bool). if b then Some (record { kind = k; name = x; parent = None; members = None }) else class_end k x (r.0 ∷ r.1)) r.3))
        (record { kind = hk; named = hx; parent = tt; members = tt });
  }

  class_defined : (k x : Part) → IsFormed tokens n k × Among (16 ∷ []) [] k → NamePart tokens n x → Gives ⊥ Good ClassGood (class_behind k x) (maybe parents ∷ class_rows)
  unfolding class_behind class_number form_number
  class_defined k x hk hx = record { there = go }
    where
      go : (xs : List Part) → MatchesAll (maybe parents ∷ class_rows) (heads xs) → Every Good xs → Has ClassGood (class_behind k x xs)
      go [] m g = false_true (all_empty (maybe parents ∷ class_rows) m)
      go (y ∷ ys) m g =
          subst (Has ClassGood) (sym (ap (λ (b : Bool). if b then Some (record { kind = k; name = x; parent = None; members = None }) else class_end k x (y ∷ ys)) (front_away (class.Semicolon ∷ []) (maybe parents ∷ class_rows) refl y ys m)))
          ((class_end_gives k x hk hx).there (y ∷ ys) m g)

  class_gives : Gives ⊥ Good ClassGood class_of (flat class_parts [])
  unfolding class_of class_number form_number
  class_gives = must_gives (class.Kind ∷ []) [] (16 ∷ []) [] _ _ refl refl (λ k v h. must_gives names [] name_cs [] _ _ refl refl (λ x w i.
      either_gives _ _ _ _ (flat_gives _ _ _ (class_announced k x (h, v) (i, w))) (flat_gives _ _ _ (class_defined k x (h, v) (i, w)))))

  pub class_has : (xs : List Part) → Matches class_parts (heads xs) → Every Good xs → Has ClassGood (class_of xs)
  class_has xs m g = class_gives.there xs (flattened class_parts [] (heads xs) (all_of class_parts (heads xs) m)) g

  -- the parameters of a template
  abbrev pub TypeNames : List Part → Type 0
  TypeNames xs = Every (NamePart tokens n) (without (class.Comma ∷ class.Typename ∷ []) xs)

  abbrev type_names : Expression
  type_names = list_of (in_order (a class.Typename ∷ name_parts ∷ []))

  names_good : (ys : List Part) → Matches type_names (heads ys) → Every Good ys → TypeNames ys
  unfolding class_number
  names_good ys m g = without_among Good (class.Comma ∷ class.Typename ∷ []) name_cs [] ys (every_among (42 ∷ 14 ∷ name_cs) [] type_names refl ys m) g

  headed : {B : Type 0} {Q : B → Type 0} (k : List Part × List Part → Option B) (es : List Expression) → ((ys : List Part) → TypeNames ys → Gives ⊥ Good Q (λ zs. k (ys, zs)) es)
      → Gives ⊥ Good Q (λ xs. on (template_head xs) k) (head_parts ∷ es)
  unfolding template_head class_number form_number
  headed k es st = same_gives _ (λ xs. on (sign (class.Template ∷ []) xs) (λ ys. on (sign (class.Less ∷ []) ys) (λ zs. on (up_to class.Greater zs) k))) _ head_on
      (seq_gives _ _ _ _ (sign_gives _ _ _ _ refl (seq_gives _ _ _ _ (sign_gives _ _ _ _ refl (seq_gives _ _ _ _ (up_to_gives class.Greater type_names _ _ refl (λ ys m g. st ys (names_good ys m g))))))))
    where
      head_on : (xs : List Part) → on (template_head xs) k ≡ on (sign (class.Template ∷ []) xs) (λ ys. on (sign (class.Less ∷ []) ys) (λ zs. on (up_to class.Greater zs) k))
      head_on xs = on_on (sign (class.Template ∷ []) xs) (λ ys. on (sign (class.Less ∷ []) ys) (up_to class.Greater)) k
          ∙ (λ i. on (sign (class.Template ∷ []) xs) (λ ys. on_on (sign (class.Less ∷ []) ys) (up_to class.Greater) k i))

  -- templates
  abbrev pub TemplatedGood : Templated → Type 0
  TemplatedGood (TemplatedClass c) = IsFormed tokens n c × Among [] (7 ∷ []) c
  TemplatedGood (TemplatedFunction f) = FunctionGood tokens n f

  pub record TemplateGood (t : Template) : Type 0 where
    pub params : TypeNames t.params
    pub of : TemplatedGood t.of

  whole : (e : Expression) (xs : List Part) → MatchesAll (e ∷ []) (heads xs) → Matches e (heads xs)
  whole e xs m = subst (Matches e) (sym (m.2 ∙ ap (λ us. m.0 ++ us) m.4 ∙ append-nil m.0)) m.3

  templated_class : Gives ⊥ Good TemplatedGood templated (a_node form.Class ∷ [])
  unfolding templated lone_class must is class_number form_number
  templated_class = record {
    there = λ xs m g.
        let r = cut_one [] (7 ∷ []) [] xs m in
        subst (Has TemplatedGood) (sym (
        ap templated (r.2 ∙ ap (λ zs. r.0 ∷ zs) (nothing_left r.1 r.4))
        ∙ ap (λ (b : Bool). elim (let o : Option (Part × List Part) = (if b then Some (r.0, []) else None) in on o (λ c. ended c.0 c.1)) [ Some c ↦ Some (TemplatedClass c) | None ↦ option_map TemplatedFunction (function (r.0 ∷ [])) ]) r.3
        )) ((subst (Every Good) r.2 g).0, r.3);
  }

  lone_where : (xs : List Part) → Every Good xs → Held (Unit {0}) (λ c. IsFormed tokens n c × Among [] (7 ∷ []) c) (lone_class xs)
  unfolding lone_class must is class_number form_number
  lone_where [] g = tt
  lone_where (x ∷ xs) g = go (among [] (7 ∷ []) x.head) refl
    where
      go : (b : Bool) → among [] (7 ∷ []) x.head ≡ b → Held (Unit {0}) (λ c. IsFormed tokens n c × Among [] (7 ∷ []) c) (let o : Option (Part × List Part) = (if b then Some (x, xs) else None) in on o (λ c. ended c.0 c.1))
      go true e = alone xs
        where
          alone : (us : List Part) → Held (Unit {0}) (λ c. IsFormed tokens n c × Among [] (7 ∷ []) c) (ended x us)
          alone [] = (g.0, e)
          alone (u ∷ us) = tt
      go false e = tt

  templated_function : Gives ⊥ Good TemplatedGood templated (function_parts ∷ [])
  unfolding templated
  templated_function = record { there = λ xs m g. go xs (lone_class xs) (lone_good xs g) (function xs) (function_has tokens n xs (whole function_parts xs m) g) }
    where
      lone_good : (xs : List Part) → Every Good xs → Held (Unit {0}) (λ c. IsFormed tokens n c × Among [] (7 ∷ []) c) (lone_class xs)
      lone_good xs g = lone_where xs g

      go : (xs : List Part) (c : Option Part) → Held (Unit {0}) (λ c. IsFormed tokens n c × Among [] (7 ∷ []) c) c → (f : Option Function) → Has (FunctionGood tokens n) f
          → Has TemplatedGood (elim c [ Some c ↦ Some (TemplatedClass c) | None ↦ option_map TemplatedFunction f ])
      go xs (Some c) hc f hf = hc
      go xs None hc f hf = has_map TemplatedGood TemplatedFunction f hf

  template_gives : Gives ⊥ Good TemplateGood template (template_parts ∷ [])
  unfolding template
  template_gives = seq_gives _ _ _ _ (headed _ _ (λ h hn. map_gives _ templated _ (more_gives TemplatedGood templated _ (λ t ht. record { params = hn; of = ht }) (either_gives _ _ _ _ templated_class templated_function))))

  pub template_has : (xs : List Part) → Matches template_parts (heads xs) → Every Good xs → Has TemplateGood (template xs)
  template_has xs m g = template_gives.there xs (all_of template_parts (heads xs) m) g

  -- members
  pub record MemberGood (m : Member) : Type 0 where
    pub params : TypeNames m.params
    pub declares : DeclarationGood tokens n m.declares

  member_plain : (es : List Expression) → edges_away (class_number class.Template ∷ []) [] (firsts_all es) ≡ true → nullable_all es ≡ false → Gives ⊥ Good (DeclarationGood tokens n) (declaration local_words) es → Gives ⊥ Good MemberGood member es
  unfolding member
  member_plain es d e st = record { there = go }
    where
      lift : (o : Option Declaration) → Has (DeclarationGood tokens n) o → Has (λ d. MemberGood (record { params = []; declares = d })) o
      lift None h = absurd h
      lift (Some d) h = record { params = tt; declares = h }

      go : (xs : List Part) → MatchesAll es (heads xs) → Every Good xs → Has MemberGood (member xs)
      go [] m g = false_true (sym e ∙ all_empty es m)
      go (x ∷ xs) m g =
          subst (Has MemberGood) (sym (ap (λ (b : Bool). if b then member_template (x ∷ xs) else option_map (λ d. record { params = []; declares = d }) (declaration local_words (x ∷ xs))) (front_away (class.Template ∷ []) es d x xs m)))
          (has_map MemberGood _ (declaration local_words (x ∷ xs)) (lift (declaration local_words (x ∷ xs)) (st.there (x ∷ xs) m g)))

  member_headed : Gives ⊥ Good MemberGood member (head_parts ∷ function_parts ∷ [])
  unfolding member member_template is class_number form_number
  member_headed = record {
    there = λ xs m g.
        let w = opened (a class.Template) (in_order (a class.Less ∷ type_names ∷ a class.Greater ∷ [])) (function_parts ∷ []) (heads xs) m in
        let r = cut_one (13 ∷ []) [] (in_order (a class.Less ∷ type_names ∷ a class.Greater ∷ []) ∷ function_parts ∷ []) xs w in
        subst (Has MemberGood) (sym (
        ap member r.2
        ∙ ap (λ (b : Bool). if b then member_template (r.0 ∷ r.1) else option_map (λ d. record { params = []; declares = d }) (declaration local_words (r.0 ∷ r.1))) r.3
        )) (subst (λ xs. Has MemberGood (member_template xs)) r.2 (template_member.there xs m g));
  }
    where
      template_member : Gives ⊥ Good MemberGood member_template (head_parts ∷ function_parts ∷ [])
      template_member = headed _ _ (λ h hn. map_gives _ function _ (record { there = λ xs m g. lift h hn (function xs) (function_has tokens n xs (whole function_parts xs m) g) }))
        where
          lift : (h : List Part) → TypeNames h → (o : Option Function) → Has (FunctionGood tokens n) o → Has (λ f. MemberGood (record { params = h; declares = OfFunction f })) o
          lift h hn None k = absurd k
          lift h hn (Some f) k = record { params = hn; declares = k }

  -- words before a type, that may lack
  words_none : (ds : List ℕ) (es : List Expression) (hs : List Head) → MatchesAll es hs → MatchesAll (many (part ds []) ∷ es) hs
  words_none ds es hs m = ([], hs, refl, (0, refl), m)

  words_more : (c : ℕ) (ds : List ℕ) (es : List Expression) → listed c ds ≡ true → (hs : List Head) → MatchesAll (either nothing (part (c ∷ []) []) ∷ many (part ds []) ∷ es) hs → MatchesAll (many (part ds []) ∷ es) hs
  words_more c ds es h hs (us, vs, e, inl x, m) = flattened nothing (many (part ds []) ∷ es) hs (us, vs, e, x, m)
  words_more c ds es h hs (us, vs, e, inr x, (ws, zs, f, k, m)) = (us ++ ws, zs, e ∙ ap (λ hs. us ++ hs) f ∙ sym (append_assoc us ws zs), (suc k.0, (us, ws, refl, word us x, k.1)), m)
    where
      one_word : (u : Head) → among (c ∷ []) [] u ≡ true → among ds [] u ≡ true
      one_word u x = inside_head ds [] (c ∷ []) [] u (ap (λ (b : Bool). both b (λ _. true)) h) refl x

      word : (us : List Head) → IsOne (c ∷ []) [] us → IsOne ds [] us
      word [] x = absurd x
      word (u ∷ []) x = one_word u x
      word (u ∷ w ∷ us) x = absurd x

  owned_gives : Gives ⊥ Good (DeclarationGood tokens n) (declaration local_words) (in_order (maybe (a class.Static) ∷ maybe (a class.Const) ∷ variables_parts ∷ a class.Semicolon ∷ []) ∷ [])
  unfolding class_number form_number
  owned_gives = record {
    there = λ xs m g.
        let w = opened (maybe (a class.Static)) (in_order (maybe (a class.Const) ∷ variables_parts ∷ a class.Semicolon ∷ [])) [] (heads xs) m in
        let x = opened (maybe (a class.Const)) (in_order (variables_parts ∷ a class.Semicolon ∷ [])) [] w.1 w.4 in
        let y = opened variables_parts (a class.Semicolon) [] x.1 x.4 in
        let z = opened pointed_alone more_variables (a class.Semicolon ∷ []) x.1 y in
        let rows : List Expression = pointed_alone ∷ more_variables ∷ a class.Semicolon ∷ [] in
        (declared_variables tokens n local_words (11 ∷ 12 ∷ []) refl refl refl refl refl).there xs
        (words_more 11 (11 ∷ 12 ∷ []) rows refl (heads xs) (w.0, w.1, w.2, w.3, words_more 12 (11 ∷ 12 ∷ []) rows refl w.1 (x.0, x.1, x.2, x.3, words_none (11 ∷ 12 ∷ []) rows x.1 z))) g;
  }

  member_gives : Gives ⊥ Good MemberGood member (member_parts ∷ [])
  unfolding class_number form_number
  member_gives = either_gives _ _ _ _
      (member_plain _ refl refl owned_gives)
      (seq_gives _ _ _ _ (either_gives _ _ _ _ (flat_gives member nothing (function_parts ∷ []) (member_plain _ refl refl (declared_function tokens n local_words))) member_headed))

  pub member_has : (xs : List Part) → Matches member_parts (heads xs) → Every Good xs → Has MemberGood (member xs)
  member_has xs m g = member_gives.there xs (all_of member_parts (heads xs) m) g

  -- items
  abbrev pub ItemGood : Item → Type 0
  ItemGood (Group t) = IsFormed tokens n t × Among (6 ∷ []) [] t
  ItemGood (Declares d) = DeclarationGood tokens n d

  abbrev group_parts : Expression
  group_parts = in_order (a class.Input ∷ a class.Group ∷ a class.String ∷ maybe (a class.Semicolon) ∷ [])

  group_gives : Gives ⊥ Good (λ t. IsFormed tokens n t × Among (6 ∷ []) [] t) group (flat group_parts [])
  unfolding group class_number form_number
  group_gives = sign_gives _ _ _ _ refl (sign_gives _ _ _ _ refl (record {
    there = λ xs m g.
        let r = front_among (6 ∷ []) [] (a class.String) (maybe (a class.Semicolon) ∷ []) refl refl xs m g in
        subst (Has (λ t. IsFormed tokens n t × Among (6 ∷ []) [] t)) (sym (ap (λ xs. option_map (λ (t : Part × List Part). t.0) (next xs)) r.2)) (r.5, r.3);
  }))

  item_group : Gives ⊥ Good ItemGood item (group_parts ∷ [])
  unfolding item
  item_group = flat_gives _ _ _ (record { there = λ xs m g. go xs (group xs) (group_gives.there xs m g) })
    where
      go : (xs : List Part) (o : Option Part) → Has (λ t. IsFormed tokens n t × Among (6 ∷ []) [] t) o → Has ItemGood (elim o [ Some t ↦ Some (Group t) | None ↦ option_map Declares (declaration store_words xs) ])
      go xs None h = absurd h
      go xs (Some t) h = h

  -- parts that do not begin with `input group`
  no_group : (es : List Expression) → seconds_away (class_number class.Group ∷ []) (firsts_all es) ≡ true → (xs : List Part) → MatchesAll es (heads xs) → group xs ≡ None
  unfolding group sign
  no_group es d [] m = refl
  no_group es d (x ∷ xs) m =
      let s = second_part (class.Group ∷ []) es d x xs m in
      go (is (class.Input ∷ []) [] x) xs s.0 s.1 s.2 s.3
    where
      go : (b : Bool) (xs : List Part) (y : Part) (zs : List Part) → xs ≡ y ∷ zs → is (class.Group ∷ []) [] y ≡ false
          → on (if b then Some xs else None) (λ ys. on (sign (class.Group ∷ []) ys) (λ zs. option_map (λ (t : Part × List Part). t.0) (next zs))) ≡ None
      go false xs y zs e h = refl
      go true xs y zs e h = ap (λ xs. on (sign (class.Group ∷ []) xs) (λ zs. option_map (λ (t : Part × List Part). t.0) (next zs))) e
          ∙ ap (λ (b : Bool). on (if b then Some zs else None) (λ zs. option_map (λ (t : Part × List Part). t.0) (next zs))) h

  item_declared : (es : List Expression) → seconds_away (class_number class.Group ∷ []) (firsts_all es) ≡ true → Gives ⊥ Good (DeclarationGood tokens n) (declaration store_words) es → Gives ⊥ Good ItemGood item es
  unfolding item
  item_declared es d st = record {
    there = λ xs m g.
        subst (Has ItemGood) (sym (ap (λ (o : Option Part). elim o [ Some t ↦ Some (Group t) | None ↦ option_map Declares (declaration store_words xs) ]) (no_group es d xs m)))
        (has_map ItemGood Declares (declaration store_words xs) (st.there xs m g));
  }

  stored_gives : Gives ⊥ Good (DeclarationGood tokens n) (declaration store_words) (variable_rows tokens n (9 ∷ 10 ∷ 11 ∷ 12 ∷ []))
  unfolding class_number form_number
  stored_gives = declared_variables tokens n store_words (9 ∷ 10 ∷ 11 ∷ 12 ∷ []) refl refl refl refl refl

  item_gives : Gives ⊥ Good ItemGood item (item_parts ∷ [])
  unfolding class_number form_number
  item_gives = either_gives _ _ _ _ item_group (either_gives _ _ _ _
      (record {
        there = λ xs m g.
            let w = opened (many (a_token (class.Input ∷ class.StaticInput ∷ class.Static ∷ class.Const ∷ []))) (in_order (variables_parts ∷ a class.Semicolon ∷ [])) [] (heads xs) m in
            let y = opened variables_parts (a class.Semicolon) [] w.1 w.4 in
            let z = opened pointed_alone more_variables (a class.Semicolon ∷ []) w.1 y in
            (item_declared (variable_rows tokens n (9 ∷ 10 ∷ 11 ∷ 12 ∷ [])) refl stored_gives).there xs (w.0, w.1, w.2, w.3, z) g;
      })
      (item_declared (function_parts ∷ []) refl (declared_function tokens n store_words)))

  pub item_has : (xs : List Part) → Matches item_parts (heads xs) → Every Good xs → Has ItemGood (item xs)
  item_has xs m g = item_gives.there xs (all_of item_parts (heads xs) m) g
