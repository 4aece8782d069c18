-- Functions, enumerations, classes, items and programs are read.
use Rattle.std.proofs.Common.{◌≡◌, ℕ, zero, suc, Bool, true, false, List, [], ◌∷◌, Option, Some, None, Ok, refl, sym, ap, subst, ◌∙◌, if◌then◌else◌, arith}
use Rattle.mql_forms.specs.Numbers.{form_number}
use Rattle.mql_forms.specs.declared.form.Form.{Form}
use Rattle.mql_forms.specs.declared.form.Form.TheVariants as form
use Rattle.mql_grammar.specs.Expression.{among, Matches}
use Rattle.mql_grammar.specs.Expressions.{expression_of}
use Rattle.mql_grammar.specs.Forms.{Head, of_class, of_form}
use Rattle.mql_grammar.specs.Numbers.{class_number}
use Rattle.mql_grammar.specs.Table.{listed}
use Rattle.mql_grammar.specs.declared.token_class.Class.TheVariants as class
use Rattle.mql_parse.specs.Classes.{classes_of}
use Rattle.mql_parse.specs.Parsed.{IsParsed}
use Rattle.mql_spelling.specs.ReservedWords.{reserved_word}
use Rattle.mql_parse.specs.Words.{class_of_word}
use Rattle.mql_tree.specs.TokenSorts.{name_of}
use Rattle.mql_tree.specs.declared.token.Span.{Span}
use Rattle.mql_tree.specs.declared.token.Token.{Token}
use Rattle.mql_tree.specs.declared.token.Tree.{Tree, out-Tree}
use Rattle.mql_tree.specs.declared.token.Tree.TheOpen.{Tree-F}
use Rattle.mql_views.specs.Cuts.{on, is}
use Rattle.mql_views.specs.Laws.{heads}
use Rattle.mql_views.specs.Parts.{Part, nodes, head_in}
use Rattle.mql_views.specs.Values.{call}
use Rattle.mql_views.specs.Declarations as views
use Rattle.mql_views.specs.Items as items
use Rattle.mql_syntax.specs.Lists.{each, maybe, pieces, without}
use Rattle.mql_syntax.specs.Leaves.{first, name, place_of, inner}
use Rattle.mql_syntax.specs.Types.{type_use}
use Rattle.mql_syntax.specs.Values.{value, items as items_of}
use Rattle.mql_syntax.specs.Variables.{sizes_from, dimension, start, variable_of, variables}
use Rattle.mql_syntax.specs.declared.declaration.Words.{Words}
use Rattle.mql_syntax.specs.declared.kind.Access.{Access}
use Rattle.mql_syntax.specs.declared.kind.ClassKind.{ClassKind}
use Rattle.mql_syntax.specs.declared.kind.Place.{Place}
use Rattle.mql_syntax_read.specs.Statements.{statement}
use Rattle.mql_syntax_read.specs.Functions.{param_words, preset_start, type_names, param, params_of, base, body, function}
use Rattle.mql_syntax_read.specs.Classes.{gathered, access_of, kind_of, first_access, access, kind, accessed, declared, parent, member, members_of, class_of}
use Rattle.mql_syntax_read.specs.Items as read
use Rattle.mql_syntax_read.specs.Items.{text_of, text, enumerator_of, enumerator, enumeration, item_of, class_item, templated, template_of, enumeration_item, form_items, items_in, item, item_parts, program_at, program}
use Rattle.mql_syntax_total.specs.Formed.{Every, IsFormed}
use Rattle.mql_syntax_total.proofs.Gives.{false_true, Has, Among, has_on, has_map}
use Rattle.mql_syntax_total.proofs.Pieces.{listed_behind, without_among}
use Rattle.mql_syntax_total.proofs.Tokens.{Is, word_there, kind_was, access_was, text_was}
use Rattle.mql_syntax_total.proofs.Trees.{head_is, head_out, inner_formed, only_token, node_form, no_leaf}
use Rattle.mql_syntax_total.proofs.Types.{TypeGood, each_is, type_read, none_below}
use Rattle.mql_syntax_total.proofs.Values.{ValuePart, is_name, value_read}
use Rattle.mql_syntax_total.proofs.Variables.{If, NamePart, size_read, values_read, scope_read, variables_read}
use Rattle.mql_syntax_total.proofs.Statements.{statement_read}
use Rattle.mql_syntax_total.proofs.Functions.{written, ParamGood, ParamPiece, CallGood, BasePiece, BodyGood, FunctionGood}
use Rattle.mql_syntax_total.proofs.Declarations.{DeclarationGood}
use Rattle.mql_syntax_total.proofs.Classes.{EnumeratorGood, EnumeratorPiece, EnumerationGood, enumeration_has, ParentGood, MembersGood, ClassGood, class_has, TypeNames, TemplatedGood, TemplateGood, template_has, MemberGood, member_has, ItemGood, item_has}
use Rattle.mql_syntax_total.proofs.Parsed.{item_fs, parsed_parts, program_part}

-- a smaller number of nodes is one, too
formed_more : (tokens : List (Token × Span)) (n : ℕ) (p : Part) → IsFormed tokens n p → IsFormed tokens (suc n) p
formed_more tokens n p is = record { seen = is.seen; formed = is.formed; whole = is.whole; deep = let h = is.deep in omega (arith, h) }

every_more : (tokens : List (Token × Span)) (n : ℕ) (xs : List Part) → Every (IsFormed tokens n) xs → Every (IsFormed tokens (suc n)) xs
every_more tokens n [] g = tt
every_more tokens n (x ∷ xs) g = (formed_more tokens n x g.0, every_more tokens n xs g.1)

-- the parts of a node
inner_kept : (tokens : List (Token × Span)) (n : ℕ) (p : Part) (f : Form) (ts : List Tree) → IsFormed tokens n p → out-Tree p.tree ≡ Tree-F.Node f ts
    → Matches (expression_of f) (heads (inner (classes_of tokens) p)) × Every (IsFormed tokens n) (inner (classes_of tokens) p)
inner_kept tokens zero p f ts is e = none_below _ is.deep
inner_kept tokens (suc n) p f ts is e = let i = inner_formed tokens n p f ts is e in (i.0, every_more tokens n (inner (classes_of tokens) p) i.1)

-- a node of one form
inner_of : (tokens : List (Token × Span)) (n : ℕ) (p : Part) (f : Form) → IsFormed tokens n p → Among [] (form_number f ∷ []) p
    → ((g : Form) → listed (form_number g) (form_number f ∷ []) ≡ true → expression_of g ≡ expression_of f)
    → Matches (expression_of f) (heads (inner (classes_of tokens) p)) × Every (IsFormed tokens n) (inner (classes_of tokens) p)
inner_of tokens n p f is h one = go (out-Tree p.tree) refl
  where
    go : (x : Tree-F Tree) → out-Tree p.tree ≡ x → Matches (expression_of f) (heads (inner (classes_of tokens) p)) × Every (IsFormed tokens n) (inner (classes_of tokens) p)
    go (Tree-F.Leaf k) e = false_true (no_leaf tokens n [] (form_number f ∷ []) p k is h e)
    go (Tree-F.Node g ts) e =
        let i = inner_kept tokens n p g ts is e in
        (subst (λ x. Matches x (heads (inner (classes_of tokens) p))) (one g (node_form tokens n [] (form_number f ∷ []) p g ts is h e)) i.0, i.1)

-- one list behind another
gathered_is : {A B : Type 0} (P : A → Type 0) (f : A → Option (List B)) → ((x : A) → P x → Is (f x)) → (xs : List A) → Every P xs → Is (gathered f xs)
gathered_is P f h [] p = tt
gathered_is P f h (x ∷ xs) p = has_on (λ y. Unit {0}) (λ y. Unit {0}) (f x) _ (h x p.0) (λ y _. has_on (λ y. Unit {0}) (λ y. Unit {0}) (gathered f xs) _ (gathered_is P f h xs p.1) (λ ys _. tt))

module _ (tokens : List (Token × Span)) (n : ℕ) (place : Place) where
  -- variables of any kind
  of_is : (words : Words) (t : views.Typed) (s : Option Part) (m : Part) (ds : List Part) (b : views.Start) → TypeGood tokens n t → If (NamePart tokens n) s → NamePart tokens n m
      → Every (If (ValuePart tokens n)) (sizes_from None ds) → Is (start tokens (classes_of tokens) n place b) → Is (variable_of tokens (classes_of tokens) n place words t s m ds b)
  unfolding variable_of
  of_is words t s m ds b ht hs hm hd hb =
      has_on (λ x. Unit {0}) (λ x. Unit {0}) (maybe (name tokens) s) _ (scope_read tokens n place s hs) (λ c _.
      has_on (λ x. Unit {0}) (λ x. Unit {0}) (name tokens m) _ (is_name tokens n m hm) (λ m' _.
      has_on (λ x. Unit {0}) (λ x. Unit {0}) (type_use tokens (classes_of tokens) n place t) _ (type_read tokens n place t ht) (λ u _.
      has_on (λ x. Unit {0}) (λ x. Unit {0}) (each (dimension tokens (classes_of tokens) n place) (sizes_from None ds)) _
      (each_is (If (ValuePart tokens n)) (dimension tokens (classes_of tokens) n place) (size_read tokens n place) (sizes_from None ds) hd) (λ xs _.
      has_map (λ x. Unit {0}) _ (start tokens (classes_of tokens) n place b) hb))))

  preset_is : (o : Option Part) → If (ValuePart tokens n) o → Is (start tokens (classes_of tokens) n place (preset_start o))
  unfolding start
  preset_is None h = tt
  preset_is (Some v) h = has_map (λ x. Unit {0}) _ (value tokens (classes_of tokens) n place v) (value_read tokens n place v h)

  -- functions
  param_is : (xs : List Part) → ParamPiece tokens n xs → Is (param tokens (classes_of tokens) n place xs)
  unfolding param
  param_is xs h = has_on (ParamGood tokens n) (λ x. Unit {0}) (views.param xs) _ h (λ p g.
      has_map (λ x. Unit {0}) _ (variable_of tokens (classes_of tokens) n place (param_words p.constant) p.typed None p.name p.dimensions (preset_start p.preset))
      (of_is (param_words p.constant) p.typed None p.name p.dimensions (preset_start p.preset) g.typed tt g.named g.sizes (preset_is p.preset g.preset)))

  params_is : (ps : List Part) → Every (ParamPiece tokens n) (pieces (written tokens n ps)) → Is (params_of tokens (classes_of tokens) n place ps)
  params_is [] g = each_is (ParamPiece tokens n) (param tokens (classes_of tokens) n place) param_is (pieces []) g
  params_is (v ∷ []) g = tt
  params_is (v ∷ w ∷ xs) g = each_is (ParamPiece tokens n) (param tokens (classes_of tokens) n place) param_is (pieces (v ∷ w ∷ xs)) g

  base_is : (xs : List Part) → BasePiece tokens n xs → Is (base tokens (classes_of tokens) n place xs)
  unfolding base
  base_is xs h = has_on (CallGood tokens n) (λ x. Unit {0}) (call xs) _ h (λ c g.
      has_on (λ x. Unit {0}) (λ x. Unit {0}) (name tokens c.callee) _ (is_name tokens n c.callee g.0) (λ m _.
      has_map (λ x. Unit {0}) _ (each (value tokens (classes_of tokens) n place) (items_of c.arguments)) (values_read tokens n place (items_of c.arguments) g.1)))

  body_is : (b : views.Body) → BodyGood tokens n b → Is (body tokens (classes_of tokens) n place b)
  unfolding body
  body_is (views.Block b) g = has_map (λ x. Unit {0}) _ (statement tokens (classes_of tokens) n place b) (statement_read tokens n place b g)
  body_is views.Declared g = tt
  body_is views.Pure g = tt

  result_is : (o : Option views.Typed) → If (TypeGood tokens n) o → Is (maybe (type_use tokens (classes_of tokens) n place) o)
  result_is None h = tt
  result_is (Some t) h = has_map (λ x. Unit {0}) _ (type_use tokens (classes_of tokens) n place t) (type_read tokens n place t h)

  function_is : (count : ℕ) (types : List (List ℕ)) (f : views.Function) → FunctionGood tokens n f → Is (function tokens (classes_of tokens) n place count types f)
  unfolding function
  function_is count types f g =
      has_on (λ x. Unit {0}) (λ x. Unit {0}) (maybe (type_use tokens (classes_of tokens) n place) f.result) _ (result_is f.result g.result) (λ r _.
      has_on (λ x. Unit {0}) (λ x. Unit {0}) (maybe (name tokens) f.scope) _ (scope_read tokens n place f.scope g.scope) (λ s _.
      has_on (λ x. Unit {0}) (λ x. Unit {0}) (name tokens f.name) _ (is_name tokens n f.name g.named) (λ m _.
      has_on (λ x. Unit {0}) (λ x. Unit {0}) (params_of tokens (classes_of tokens) n place f.params) _ (params_is f.params g.params) (λ ps _.
      has_on (λ x. Unit {0}) (λ x. Unit {0}) (each (base tokens (classes_of tokens) n place) (pieces f.bases)) _
      (each_is (BasePiece tokens n) (base tokens (classes_of tokens) n place) base_is (pieces f.bases) g.bases) (λ bs _.
      has_map (λ x. Unit {0}) _ (body tokens (classes_of tokens) n place f.body) (body_is f.body g.body))))))

  names_is : (xs : List Part) → TypeNames tokens n xs → Is (type_names tokens xs)
  unfolding type_names
  names_is xs g = each_is (NamePart tokens n) (name tokens) (is_name tokens n) (without (class.Comma ∷ class.Typename ∷ []) xs) g

  -- enumerations
  value_maybe : (o : Option Part) → If (ValuePart tokens n) o → Is (maybe (value tokens (classes_of tokens) n place) o)
  value_maybe None h = tt
  value_maybe (Some v) h = has_map (λ x. Unit {0}) _ (value tokens (classes_of tokens) n place v) (value_read tokens n place v h)

  enumerator_is : (xs : List Part) → EnumeratorPiece tokens n xs → Is (enumerator tokens (classes_of tokens) n place xs)
  unfolding enumerator
  enumerator_is xs h = has_on (EnumeratorGood tokens n) (λ x. Unit {0}) (views.enumerator xs) _ h (λ e g.
      has_on (λ x. Unit {0}) (λ x. Unit {0}) (name tokens e.name) _ (is_name tokens n e.name g.named) (λ m _.
      has_map (λ x. Unit {0}) _ (maybe (value tokens (classes_of tokens) n place) e.value) (value_maybe e.value g.value)))

  enumeration_is : (e : views.Enumeration) → EnumerationGood tokens n e → Is (enumeration tokens (classes_of tokens) n place e)
  unfolding enumeration
  enumeration_is e g =
      has_on (λ x. Unit {0}) (λ x. Unit {0}) (name tokens e.name) _ (is_name tokens n e.name g.named) (λ m _.
      has_map (λ x. Unit {0}) _ (each (enumerator tokens (classes_of tokens) n place) (pieces e.values))
      (each_is (EnumeratorPiece tokens n) (enumerator tokens (classes_of tokens) n place) enumerator_is (pieces e.values) g.values))

-- words
access_is : (tokens : List (Token × Span)) (n : ℕ) (p : Part) → IsFormed tokens n p → Among (17 ∷ []) [] p → Is (access tokens p)
unfolding access name
access_is tokens n p is h =
    let t = only_token tokens n (17 ∷ []) p is h refl in
    subst (λ o. Is (on (on o name_of) (λ n. on (reserved_word n) access_of))) (sym t.is)
    (has_on (λ n. Has (λ w. listed (class_number (class_of_word w)) (17 ∷ []) ≡ true) (reserved_word n)) (λ x. Unit {0}) (name_of t.own) _ (word_there t.before t.own t.behind (17 ∷ []) refl refl refl refl refl t.classed) (λ n h.
    has_on (λ w. listed (class_number (class_of_word w)) (17 ∷ []) ≡ true) (λ x. Unit {0}) (reserved_word n) _ h (λ w k. access_was w k)))

kind_is : (tokens : List (Token × Span)) (n : ℕ) (p : Part) → IsFormed tokens n p → Among (16 ∷ []) [] p → Is (kind tokens p)
unfolding kind name
kind_is tokens n p is h =
    let t = only_token tokens n (16 ∷ []) p is h refl in
    subst (λ o. Is (on (on o name_of) (λ n. on (reserved_word n) kind_of))) (sym t.is)
    (has_on (λ n. Has (λ w. listed (class_number (class_of_word w)) (16 ∷ []) ≡ true) (reserved_word n)) (λ x. Unit {0}) (name_of t.own) _ (word_there t.before t.own t.behind (16 ∷ []) refl refl refl refl refl t.classed) (λ n h.
    has_on (λ w. listed (class_number (class_of_word w)) (16 ∷ []) ≡ true) (λ x. Unit {0}) (reserved_word n) _ h (λ w k. kind_was w k)))

text_is : (tokens : List (Token × Span)) (n : ℕ) (p : Part) → IsFormed tokens n p → Among (6 ∷ []) [] p → Is (text tokens p)
unfolding text
text_is tokens n p is h =
    let t = only_token tokens n (6 ∷ []) p is h refl in
    subst (λ o. Is (on o text_of)) (sym t.is) (text_was t.before t.own t.behind t.classed)

-- classes
module _ (tokens : List (Token × Span)) (n : ℕ) where
  abbrev MemberPart : Access × Part → Type 0
  MemberPart m = IsFormed tokens n m.1 × Among [] (8 ∷ []) m.1

  accessed_has : (xs : List Part) → MembersGood tokens n xs → (a : Access) → Has (Every MemberPart) (accessed tokens a xs)
  unfolding is class_number
  accessed_has [] g a = tt
  accessed_has (x ∷ xs) g a = go (is (class.Access ∷ []) [] x) (is (class.Colon ∷ []) [] x) refl refl (accessed_has xs g.1)
    where
      other : (h : Head) → among (17 ∷ 44 ∷ []) (8 ∷ []) h ≡ true → among (17 ∷ []) [] h ≡ false → among (44 ∷ []) [] h ≡ false → among [] (8 ∷ []) h ≡ true
      other (of_class c) h i j = false_true (sym j ∙ listed_behind c (17 ∷ []) (44 ∷ []) h i)
      other (of_form f) h i j = h

      go : (b c : Bool) → is (class.Access ∷ []) [] x ≡ b → is (class.Colon ∷ []) [] x ≡ c → ((a : Access) → Has (Every MemberPart) (accessed tokens a xs))
          → Has (Every MemberPart) (if b then on (access tokens x) (λ b. accessed tokens b xs) else if c then accessed tokens a xs else on (accessed tokens a xs) (λ ms. Some ((a, x) ∷ ms)))
      go true c e f k = has_on (λ x. Unit {0}) (Every MemberPart) (access tokens x) _ (access_is tokens n x g.0.0 e) (λ b _. k b)
      go false true e f k = k a
      go false false e f k = has_on (Every MemberPart) (Every MemberPart) (accessed tokens a xs) _ (k a) (λ ms h. ((g.0.0, other x.head g.0.1 e f), h))

  declared_is : (place : Place) (a : Access) (count : ℕ) (params : List Part) (d : items.Declaration) → TypeNames tokens n params → DeclarationGood tokens n d → Is (declared tokens (classes_of tokens) n place a count params d)
  unfolding declared
  declared_is place a count params (items.OfVariables v) hp g = has_map (λ x. Unit {0}) _ (variables tokens (classes_of tokens) n place v) (variables_read tokens n place v g)
  declared_is place a count params (items.OfFunction f) hp g =
      has_on (λ x. Unit {0}) (λ x. Unit {0}) (type_names tokens params) _ (names_is tokens n place params hp) (λ ts _.
      has_map (λ x. Unit {0}) _ (function tokens (classes_of tokens) n place count ts f) (function_is tokens n place count ts f g))

  is_member : (g : Form) → listed (form_number g) (form_number form.Member ∷ []) ≡ true → expression_of g ≡ expression_of form.Member
  unfolding form_number
  is_member form.Program h = false_true h
  is_member form.Item h = false_true h
  is_member form.Template h = false_true h
  is_member form.GenericType h = false_true h
  is_member form.Braces h = false_true h
  is_member form.Enumeration h = false_true h
  is_member form.Class h = false_true h
  is_member form.Member h = refl
  is_member form.Block h = false_true h
  is_member form.Empty h = false_true h
  is_member form.Simple h = false_true h
  is_member form.If h = false_true h
  is_member form.While h = false_true h
  is_member form.Do h = false_true h
  is_member form.For h = false_true h
  is_member form.Switch h = false_true h
  is_member form.Break h = false_true h
  is_member form.Continue h = false_true h
  is_member form.Return h = false_true h
  is_member form.Delete h = false_true h
  is_member form.GenericFunction h = false_true h
  is_member form.Bracket h = false_true h
  is_member form.Scope h = false_true h
  is_member form.Conversion h = false_true h
  is_member form.New h = false_true h
  is_member form.DynamicCast h = false_true h
  is_member form.MemberAccess h = false_true h
  is_member form.Index h = false_true h
  is_member form.Call h = false_true h
  is_member form.Postfix h = false_true h
  is_member form.Unary h = false_true h
  is_member form.Product h = false_true h
  is_member form.Sum h = false_true h
  is_member form.Shift h = false_true h
  is_member form.Relation h = false_true h
  is_member form.Equality h = false_true h
  is_member form.BitAnd h = false_true h
  is_member form.BitXor h = false_true h
  is_member form.BitOr h = false_true h
  is_member form.And h = false_true h
  is_member form.Or h = false_true h
  is_member form.Conditional h = false_true h
  is_member form.Assignment h = false_true h

  member_is : (place : Place) (m : Access × Part) → MemberPart m → Is (member tokens (classes_of tokens) n place m)
  unfolding member expression_of form_number
  member_is place m g =
      let i = inner_of tokens n m.1 form.Member g.0 g.1 is_member in
      has_on (MemberGood tokens n) (λ x. Unit {0}) (items.member (inner (classes_of tokens) m.1)) _ (member_has tokens n (inner (classes_of tokens) m.1) i.0 i.1) (λ v h.
      declared_is (place_of place m.1) m.0 (nodes m.1.tree) v.params v.declares h.params h.declares)

  members_is : (place : Place) (k : ClassKind) (o : Option (List Part)) → If (MembersGood tokens n) o → Is (members_of tokens (classes_of tokens) n place k o)
  unfolding members_of
  members_is place k None h = tt
  members_is place k (Some xs) h =
      has_on (Every MemberPart) (λ x. Unit {0}) (accessed tokens (first_access k) xs) _ (accessed_has xs h (first_access k)) (λ ms g.
      gathered_is MemberPart (member tokens (classes_of tokens) n place) (member_is place) ms g)

  parent_is : (place : Place) (p : views.Parent) → ParentGood tokens n p → Is (parent tokens (classes_of tokens) n place p)
  unfolding parent
  parent_is place p g =
      has_on (λ x. Unit {0}) (λ x. Unit {0}) (maybe (access tokens) p.access) _ (access_maybe p.access g.access) (λ a _.
      has_map (λ x. Unit {0}) _ (type_use tokens (classes_of tokens) n place (record { type = p.type; pointer = false })) (type_read tokens n place (record { type = p.type; pointer = false }) g.typed))
    where
      access_maybe : (o : Option Part) → If (λ x. IsFormed tokens n x × Among (17 ∷ []) [] x) o → Is (maybe (access tokens) o)
      access_maybe None h = tt
      access_maybe (Some x) h = has_map (λ x. Unit {0}) _ (access tokens x) (access_is tokens n x h.0 h.1)

  parent_maybe : (place : Place) (o : Option views.Parent) → If (ParentGood tokens n) o → Is (maybe (parent tokens (classes_of tokens) n place) o)
  parent_maybe place None h = tt
  parent_maybe place (Some p) h = has_map (λ x. Unit {0}) _ (parent tokens (classes_of tokens) n place p) (parent_is place p h)

  class_is : (place : Place) (count : ℕ) (types : List (List ℕ)) (c : views.Class') → ClassGood tokens n c → Is (class_of tokens (classes_of tokens) n place count types c)
  unfolding class_of
  class_is place count types c g =
      has_on (λ x. Unit {0}) (λ x. Unit {0}) (kind tokens c.kind) _ (kind_is tokens n c.kind g.kind.0 g.kind.1) (λ k _.
      has_on (λ x. Unit {0}) (λ x. Unit {0}) (name tokens c.name) _ (is_name tokens n c.name g.named) (λ m _.
      has_on (λ x. Unit {0}) (λ x. Unit {0}) (maybe (parent tokens (classes_of tokens) n place) c.parent) _ (parent_maybe place c.parent g.parent) (λ p _.
      has_map (λ x. Unit {0}) _ (members_of tokens (classes_of tokens) n place k c.members) (members_is place k c.members g.members))))

  -- items
  class_item_is : (place : Place) (count : ℕ) (types : List (List ℕ)) (xs : List Part) → Has (ClassGood tokens n) (views.class_of xs) → Is (class_item tokens (classes_of tokens) n place count types xs)
  unfolding class_item
  class_item_is place count types xs h = has_on (ClassGood tokens n) (λ x. Unit {0}) (views.class_of xs) _ h (λ c g.
      has_map (λ x. Unit {0}) _ (class_of tokens (classes_of tokens) n place count types c) (class_is place count types c g))

  item_of_is : (place : Place) (count : ℕ) (i : items.Item) → ItemGood tokens n i → Is (item_of tokens (classes_of tokens) n place count i)
  unfolding item_of read.declared
  item_of_is place count (items.Group t) g = has_map (λ x. Unit {0}) _ (text tokens t) (text_is tokens n t g.0 g.1)
  item_of_is place count (items.Declares (items.OfVariables v)) g = has_map (λ x. Unit {0}) _ (variables tokens (classes_of tokens) n place v) (variables_read tokens n place v g)
  item_of_is place count (items.Declares (items.OfFunction f)) g = has_map (λ x. Unit {0}) _ (function tokens (classes_of tokens) n place count [] f) (function_is tokens n place count [] f g)

  is_class : (g : Form) → listed (form_number g) (form_number form.Class ∷ []) ≡ true → expression_of g ≡ expression_of form.Class
  unfolding form_number
  is_class form.Program h = false_true h
  is_class form.Item h = false_true h
  is_class form.Template h = false_true h
  is_class form.GenericType h = false_true h
  is_class form.Braces h = false_true h
  is_class form.Enumeration h = false_true h
  is_class form.Class h = refl
  is_class form.Member h = false_true h
  is_class form.Block h = false_true h
  is_class form.Empty h = false_true h
  is_class form.Simple h = false_true h
  is_class form.If h = false_true h
  is_class form.While h = false_true h
  is_class form.Do h = false_true h
  is_class form.For h = false_true h
  is_class form.Switch h = false_true h
  is_class form.Break h = false_true h
  is_class form.Continue h = false_true h
  is_class form.Return h = false_true h
  is_class form.Delete h = false_true h
  is_class form.GenericFunction h = false_true h
  is_class form.Bracket h = false_true h
  is_class form.Scope h = false_true h
  is_class form.Conversion h = false_true h
  is_class form.New h = false_true h
  is_class form.DynamicCast h = false_true h
  is_class form.MemberAccess h = false_true h
  is_class form.Index h = false_true h
  is_class form.Call h = false_true h
  is_class form.Postfix h = false_true h
  is_class form.Unary h = false_true h
  is_class form.Product h = false_true h
  is_class form.Sum h = false_true h
  is_class form.Shift h = false_true h
  is_class form.Relation h = false_true h
  is_class form.Equality h = false_true h
  is_class form.BitAnd h = false_true h
  is_class form.BitXor h = false_true h
  is_class form.BitOr h = false_true h
  is_class form.And h = false_true h
  is_class form.Or h = false_true h
  is_class form.Conditional h = false_true h
  is_class form.Assignment h = false_true h

  templated_is : (place : Place) (count : ℕ) (types : List (List ℕ)) (t : items.Templated) → TemplatedGood tokens n t → Is (templated tokens (classes_of tokens) n place count types t)
  unfolding templated expression_of form_number
  templated_is place count types (items.TemplatedClass c) g =
      let i = inner_of tokens n c form.Class g.0 g.1 is_class in
      class_item_is (place_of place c) count types (inner (classes_of tokens) c) (class_has tokens n (inner (classes_of tokens) c) i.0 i.1)
  templated_is place count types (items.TemplatedFunction f) g = has_map (λ x. Unit {0}) _ (function tokens (classes_of tokens) n place count types f) (function_is tokens n place count types f g)

  template_is : (place : Place) (count : ℕ) (t : items.Template) → TemplateGood tokens n t → Is (template_of tokens (classes_of tokens) n place count t)
  unfolding template_of
  template_is place count t g = has_on (λ x. Unit {0}) (λ x. Unit {0}) (type_names tokens t.params) _ (names_is tokens n place t.params g.params) (λ ts _. templated_is place count ts t.of g.of)

  enumeration_item_is : (place : Place) (xs : List Part) → Has (EnumerationGood tokens n) (views.enumeration xs) → Is (enumeration_item tokens (classes_of tokens) n place xs)
  unfolding enumeration_item
  enumeration_item_is place xs h = has_on (EnumerationGood tokens n) (λ x. Unit {0}) (views.enumeration xs) _ h (λ e g.
      has_map (λ x. Unit {0}) _ (enumeration tokens (classes_of tokens) n place e) (enumeration_is tokens n place e g))

  form_items_is : (place : Place) (f : Form) (count : ℕ) (xs : List Part) → listed (form_number f) item_fs ≡ true → Matches (expression_of f) (heads xs) → Every (IsFormed tokens n) xs → Is (form_items tokens (classes_of tokens) n place f count xs)
  unfolding form_items form_number expression_of
  form_items_is place form.Program count xs h m g = false_true h
  form_items_is place form.Item count xs h m g = has_on (ItemGood tokens n) (λ x. Unit {0}) (items.item xs) _ (item_has tokens n xs m g) (λ i k. item_of_is place count i k)
  form_items_is place form.Template count xs h m g = has_on (TemplateGood tokens n) (λ x. Unit {0}) (items.template xs) _ (template_has tokens n xs m g) (λ t k. template_is place count t k)
  form_items_is place form.GenericType count xs h m g = false_true h
  form_items_is place form.Braces count xs h m g = false_true h
  form_items_is place form.Enumeration count xs h m g = enumeration_item_is place xs (enumeration_has tokens n xs m g)
  form_items_is place form.Class count xs h m g = class_item_is place count [] xs (class_has tokens n xs m g)
  form_items_is place form.Member count xs h m g = false_true h
  form_items_is place form.Block count xs h m g = false_true h
  form_items_is place form.Empty count xs h m g = false_true h
  form_items_is place form.Simple count xs h m g = false_true h
  form_items_is place form.If count xs h m g = false_true h
  form_items_is place form.While count xs h m g = false_true h
  form_items_is place form.Do count xs h m g = false_true h
  form_items_is place form.For count xs h m g = false_true h
  form_items_is place form.Switch count xs h m g = false_true h
  form_items_is place form.Break count xs h m g = false_true h
  form_items_is place form.Continue count xs h m g = false_true h
  form_items_is place form.Return count xs h m g = false_true h
  form_items_is place form.Delete count xs h m g = false_true h
  form_items_is place form.GenericFunction count xs h m g = false_true h
  form_items_is place form.Bracket count xs h m g = false_true h
  form_items_is place form.Scope count xs h m g = false_true h
  form_items_is place form.Conversion count xs h m g = false_true h
  form_items_is place form.New count xs h m g = false_true h
  form_items_is place form.DynamicCast count xs h m g = false_true h
  form_items_is place form.MemberAccess count xs h m g = false_true h
  form_items_is place form.Index count xs h m g = false_true h
  form_items_is place form.Call count xs h m g = false_true h
  form_items_is place form.Postfix count xs h m g = false_true h
  form_items_is place form.Unary count xs h m g = false_true h
  form_items_is place form.Product count xs h m g = false_true h
  form_items_is place form.Sum count xs h m g = false_true h
  form_items_is place form.Shift count xs h m g = false_true h
  form_items_is place form.Relation count xs h m g = false_true h
  form_items_is place form.Equality count xs h m g = false_true h
  form_items_is place form.BitAnd count xs h m g = false_true h
  form_items_is place form.BitXor count xs h m g = false_true h
  form_items_is place form.BitOr count xs h m g = false_true h
  form_items_is place form.And count xs h m g = false_true h
  form_items_is place form.Or count xs h m g = false_true h
  form_items_is place form.Conditional count xs h m g = false_true h
  form_items_is place form.Assignment count xs h m g = false_true h

  item_is : (place : Place) (p : Part) → IsFormed tokens n p × Among [] item_fs p → Is (item tokens (classes_of tokens) n place p)
  unfolding item
  item_is place p g = go (out-Tree p.tree) refl
    where
      go : (x : Tree-F Tree) → out-Tree p.tree ≡ x → Is (items_in tokens (classes_of tokens) n (place_of place p) (nodes p.tree) (inner (classes_of tokens) p) (out-Tree p.tree))
      go (Tree-F.Leaf k) e = false_true (no_leaf tokens n [] item_fs p k g.0 g.1 e)
      go (Tree-F.Node f ts) e =
          let i = inner_kept tokens n p f ts g.0 e in
          subst (λ x. Is (items_in tokens (classes_of tokens) n (place_of place p) (nodes p.tree) (inner (classes_of tokens) p) x)) (sym e)
          (form_items_is (place_of place p) f (nodes p.tree) (inner (classes_of tokens) p) (node_form tokens n [] item_fs p f ts g.0 g.1 e) i.0 i.1)

-- each program that the parser answers is read
pub program_is_read : (tokens : List (Token × Span)) (t : Tree) → IsParsed tokens (Ok t) → Is (program tokens (classes_of tokens) 200 t)
unfolding program is class_number form_number
program_is_read tokens t p =
    let r = parsed_parts tokens t p in
    let whole : among [] (1 ∷ []) (head_in (classes_of tokens) t) ≡ true = subst (λ h. among [] (1 ∷ []) h ≡ true) (sym (head_is (classes_of tokens) t ∙ ap (λ x. head_out (classes_of tokens) x) r.2)) (ap (λ k. listed k (1 ∷ [])) r.3) in
    subst (λ (b : Bool). Is (if b then program_at tokens (classes_of tokens) 200 (record { at = 0; first = first t }) t else None)) (sym whole)
    (has_map (λ x. Unit {0}) _ (gathered (item tokens (classes_of tokens) 200 (record { at = 0; first = first t })) (item_parts tokens (classes_of tokens) 200 t))
    (gathered_is (λ p. IsFormed tokens 200 p × Among [] item_fs p) (item tokens (classes_of tokens) 200 (record { at = 0; first = first t })) (item_is tokens 200 (record { at = 0; first = first t })) (item_parts tokens (classes_of tokens) 200 t)
    (without_among (IsFormed tokens 200) (class.Semicolon ∷ []) [] item_fs (inner (classes_of tokens) (program_part tokens t)) r.5 r.4)))
