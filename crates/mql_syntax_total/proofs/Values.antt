-- Values are read.
use Rattle.std.proofs.Common.{◌≡◌, ℕ, zero, suc, Bool, true, false, List, [], ◌∷◌, Option, Some, None, refl, sym, ap, subst, ◌∙◌}
use Rattle.std.specs.Prelude.{option_map}
use Rattle.mql_forms.specs.Numbers.{form_number}
use Rattle.mql_forms.specs.declared.form.Form.{Form}
use Rattle.mql_forms.specs.declared.form.Form.TheVariants as form
use Rattle.mql_grammar.specs.Expression.{Expression, Matches}
use Rattle.mql_grammar.specs.Expressions.{expression_of, args, init, list_of, maybe}
use Rattle.mql_grammar.specs.Numbers.{class_number}
use Rattle.mql_grammar.specs.Table.{listed}
use Rattle.mql_grammar.specs.declared.token_class.Class.TheVariants as class
use Rattle.mql_parse.specs.Classes.{classes_of}
use Rattle.mql_parse.specs.Words.{sign_class}
use Rattle.mql_tree.specs.declared.token.Span.{Span}
use Rattle.mql_tree.specs.declared.token.Token.{Token}
use Rattle.mql_tree.specs.declared.token.Tree.{Tree, out-Tree}
use Rattle.mql_tree.specs.declared.token.Tree.TheOpen.{Tree-F}
use Rattle.mql_views.specs.Cuts.{on, is, sign as sign_cut, all_to}
use Rattle.mql_views.specs.Laws.{heads}
use Rattle.mql_views.specs.Parts.{Part}
use Rattle.mql_views.specs.Values.{Bracket, Between, pair, between, conditional, index, conversion, bracket, bracket_end, call, new_arguments, new_object, dynamic_value, dynamic_cast, in_braces}
use Rattle.mql_views.proofs.Stands.{single, flat, nothing_left}
use Rattle.mql_syntax.specs.Lists.{each}
use Rattle.mql_syntax.specs.Leaves.{name, sign, place_of, token, inner}
use Rattle.mql_syntax.specs.Types.{Named, generic_named, type_use}
use Rattle.mql_syntax.specs.Values.{Shape, plain, items, in_bracket, bracket_shape, index_shape, dynamic_cast_shape, conversion_shape, braces_shape, conditional_shape, call_shape, new_shape, unary_shape, postfix_shape, binary_shape, assignment_shape, member_shape, scope_shape, generic_shape, form_shape, shape_in, shape, value, binary_of, assignment_of, unary_of, step_of, token_value}
use Rattle.mql_syntax.specs.declared.kind.Place.{Place}
use Rattle.mql_syntax.specs.declared.value.Operation.TheVariants as operation
use Rattle.mql_syntax_total.specs.Formed.{Every, IsFormed}
use Rattle.mql_syntax_total.proofs.Gives.{false_true, Has, Among, Gives, consists, every_among, front_among, sign_gives, next_gives, last_gives, ended_gives, none_gives, may_gives, may_not_gives, maybe_gives, either_gives, flat_gives, cons_gives, map_gives, lone_gives, on_gives, has_on, has_map, given_by}
use Rattle.mql_syntax_total.proofs.Pieces.{each_has, items_among}
use Rattle.mql_syntax_total.proofs.Tokens.{Is, value_was, unarys, unary_was, binarys, binary_was, assignments, assignment_was, steps, step_was}
use Rattle.mql_syntax_total.proofs.Trees.{inner_formed, IsToken, leaf_token, node_form, name_there, sign_there}
use Rattle.mql_syntax_total.proofs.Types.{type_cs, type_fs, TypePart, TypeGood, NamedGood, is_has, each_is, generic_type_has, generic_function_has, type_read, none_below}

abbrev pub value_cs : List ℕ
value_cs = 0 ∷ 1 ∷ 4 ∷ 5 ∷ 6 ∷ 8 ∷ []

abbrev pub value_fs : List ℕ
value_fs = 5 ∷ 4 ∷ 21 ∷ 22 ∷ 23 ∷ 24 ∷ 25 ∷ 26 ∷ 27 ∷ 28 ∷ 29 ∷ 30 ∷ 31 ∷ 32 ∷ 33 ∷ 34 ∷ 35 ∷ 36 ∷ 37 ∷ 38 ∷ 39 ∷ 40 ∷ 41 ∷ 42 ∷ 43 ∷ []

abbrev pub name_cs : List ℕ
name_cs = 0 ∷ 1 ∷ []

module _ (tokens : List (Token × Span)) (n : ℕ) where
  abbrev Good : Part → Type 0
  Good p = IsFormed tokens n p

  -- a part where a value may stand
  abbrev pub ValuePart : Part → Type 0
  ValuePart p = IsFormed tokens n p × Among value_cs value_fs p

  -- of a shape the types may stand where types may, the values where values may
  abbrev pub ShapeGood : Shape → Type 0
  ShapeGood s = Every (TypeGood tokens n) s.types × Every ValuePart s.parts

  -- the items of a list of values
  pub items_good : (e : Expression) → consists (42 ∷ value_cs) value_fs e ≡ true → (ys : List Part) → Matches e (heads ys) → Every Good ys → Every ValuePart (items ys)
  unfolding class_number
  items_good e h ys m g = items_among Good value_cs value_fs ys (every_among (42 ∷ value_cs) value_fs e h ys m) g

  -- an operator between two values
  abbrev BetweenGood : List ℕ → Between → Type 0
  BetweenGood ops b = ValuePart b.left × (Good b.operator × Among ops [] b.operator) × ValuePart b.right

  between_gives : (ops : List ℕ) (d e f : Expression) → single d ≡ true → single e ≡ true → single f ≡ true → consists value_cs value_fs d ≡ true → consists ops [] e ≡ true → consists value_cs value_fs f ≡ true
      → Gives ⊥ Good (BetweenGood ops) between (d ∷ e ∷ f ∷ [])
  unfolding between
  between_gives ops d e f sd se sf cd ce cf =
      next_gives value_cs value_fs d _ _ sd cd (λ x v g. next_gives ops [] e _ _ se ce (λ o w h. last_gives value_cs value_fs f _ sf cf (λ y u k. ((g, v), (h, w), (k, u)))))

  binary_good : (b : Between) → BetweenGood binarys b → Has ShapeGood (on (sign tokens b.operator) (λ s. option_map (λ o. plain (operation.Binary o) (b.left ∷ b.right ∷ [])) (binary_of s)))
  binary_good b q = has_on (λ s. listed (class_number (sign_class s)) binarys ≡ true) ShapeGood (sign tokens b.operator) _ (sign_there tokens n binarys b.operator q.1.0 q.1.1 refl refl refl)
      (λ s h. has_map ShapeGood _ (binary_of s) (is_has _ (binary_of s) (binary_was s h) (λ o. (tt, (q.0, (q.2, tt))))))

  binary_gives : (d e f : Expression) → single d ≡ true → single e ≡ true → single f ≡ true → consists value_cs value_fs d ≡ true → consists binarys [] e ≡ true → consists value_cs value_fs f ≡ true
      → Gives ⊥ Good ShapeGood (binary_shape tokens) (d ∷ e ∷ f ∷ [])
  unfolding binary_shape
  binary_gives d e f sd se sf cd ce cf = on_gives (BetweenGood binarys) between _ _ (between_gives binarys d e f sd se sf cd ce cf) binary_good

  assignment_good : (b : Between) → BetweenGood assignments b → Has ShapeGood (on (sign tokens b.operator) (λ s. option_map (λ o. plain o (b.left ∷ b.right ∷ [])) (assignment_of s)))
  assignment_good b q = has_on (λ s. listed (class_number (sign_class s)) assignments ≡ true) ShapeGood (sign tokens b.operator) _ (sign_there tokens n assignments b.operator q.1.0 q.1.1 refl refl refl)
      (λ s h. has_map ShapeGood _ (assignment_of s) (is_has _ (assignment_of s) (assignment_was s h) (λ o. (tt, (q.0, (q.2, tt))))))

  -- a name behind a value, or behind a name
  abbrev NameBehind : (Part → Type 0) → Between → Type 0
  NameBehind P b = P b.left × (Good b.right × Among name_cs [] b.right)

  name_behind_gives : (cs fs ops : List ℕ) (P : Part → Type 0) (d e f : Expression) → single d ≡ true → single e ≡ true → single f ≡ true → consists cs fs d ≡ true → consists ops [] e ≡ true → consists name_cs [] f ≡ true
      → ((x : Part) → Among cs fs x → Good x → P x) → Gives ⊥ Good (NameBehind P) between (d ∷ e ∷ f ∷ [])
  unfolding between
  name_behind_gives cs fs ops P d e f sd se sf cd ce cf p =
      next_gives cs fs d _ _ sd cd (λ x v g. next_gives ops [] e _ _ se ce (λ o w h. last_gives name_cs [] f _ sf cf (λ y u k. (p x v g, (k, u)))))

  pub is_name : (p : Part) → Good p × Among name_cs [] p → Is (name tokens p)
  is_name p g = name_there tokens n name_cs p g.0 g.1 refl refl

  member_gives : Gives ⊥ Good ShapeGood (member_shape tokens) (flat (expression_of form.MemberAccess) [])
  unfolding member_shape expression_of class_number form_number
  member_gives = on_gives (NameBehind ValuePart) between _ _ (name_behind_gives value_cs value_fs (43 ∷ []) ValuePart _ _ _ refl refl refl refl refl refl (λ x v g. (g, v)))
      (λ b q. has_map ShapeGood _ (name tokens b.right) (is_has _ (name tokens b.right) (is_name b.right q.1) (λ s. (tt, (q.0, tt)))))

  scope_gives : Gives ⊥ Good ShapeGood (scope_shape tokens) (flat (expression_of form.Scope) [])
  unfolding scope_shape expression_of class_number form_number
  scope_gives = on_gives (NameBehind (λ x. Good x × Among name_cs [] x)) between _ _ (name_behind_gives name_cs [] (45 ∷ []) (λ x. Good x × Among name_cs [] x) _ _ _ refl refl refl refl refl refl (λ x v g. (g, v)))
      (λ b q. has_on (λ s. Unit {0}) ShapeGood (name tokens b.left) _ (is_name b.left q.0) (λ c _.
      has_map ShapeGood _ (name tokens b.right) (is_has _ (name tokens b.right) (is_name b.right q.1) (λ s. (tt, tt)))))

  unary_gives : Gives ⊥ Good ShapeGood (unary_shape tokens) (flat (expression_of form.Unary) [])
  unfolding unary_shape pair expression_of class_number form_number
  unary_gives = on_gives (λ p. (Good p.0 × Among unarys [] p.0) × ValuePart p.1) pair _ _
      (next_gives unarys [] _ _ _ refl refl (λ o w h. last_gives value_cs value_fs _ _ refl refl (λ y u k. ((h, w), (k, u)))))
      (λ p q. has_on (λ s. listed (class_number (sign_class s)) unarys ≡ true) ShapeGood (sign tokens p.0) _ (sign_there tokens n unarys p.0 q.0.0 q.0.1 refl refl refl)
      (λ s h. has_map ShapeGood _ (unary_of s) (is_has _ (unary_of s) (unary_was s h) (λ o. (tt, (q.1, tt))))))

  postfix_gives : Gives ⊥ Good ShapeGood (postfix_shape tokens) (flat (expression_of form.Postfix) [])
  unfolding postfix_shape pair expression_of class_number form_number
  postfix_gives = on_gives (λ p. ValuePart p.0 × (Good p.1 × Among steps [] p.1)) pair _ _
      (next_gives value_cs value_fs _ _ _ refl refl (λ x v g. last_gives steps [] _ _ refl refl (λ o w h. ((g, v), (h, w)))))
      (λ p q. has_on (λ s. listed (class_number (sign_class s)) steps ≡ true) ShapeGood (sign tokens p.1) _ (sign_there tokens n steps p.1 q.1.0 q.1.1 refl refl refl)
      (λ s h. has_map ShapeGood _ (step_of s) (is_has _ (step_of s) (step_was s h) (λ o. (tt, (q.0, tt))))))

  product_gives : Gives ⊥ Good ShapeGood (binary_shape tokens) (flat (expression_of form.Product) [])
  unfolding expression_of class_number form_number
  product_gives = binary_gives _ _ _ refl refl refl refl refl refl

  sum_gives : Gives ⊥ Good ShapeGood (binary_shape tokens) (flat (expression_of form.Sum) [])
  unfolding expression_of class_number form_number
  sum_gives = binary_gives _ _ _ refl refl refl refl refl refl

  shift_gives : Gives ⊥ Good ShapeGood (binary_shape tokens) (flat (expression_of form.Shift) [])
  unfolding expression_of class_number form_number
  shift_gives = binary_gives _ _ _ refl refl refl refl refl refl

  relation_gives : Gives ⊥ Good ShapeGood (binary_shape tokens) (flat (expression_of form.Relation) [])
  unfolding expression_of class_number form_number
  relation_gives = binary_gives _ _ _ refl refl refl refl refl refl

  equality_gives : Gives ⊥ Good ShapeGood (binary_shape tokens) (flat (expression_of form.Equality) [])
  unfolding expression_of class_number form_number
  equality_gives = binary_gives _ _ _ refl refl refl refl refl refl

  bit_and_gives : Gives ⊥ Good ShapeGood (binary_shape tokens) (flat (expression_of form.BitAnd) [])
  unfolding expression_of class_number form_number
  bit_and_gives = binary_gives _ _ _ refl refl refl refl refl refl

  bit_xor_gives : Gives ⊥ Good ShapeGood (binary_shape tokens) (flat (expression_of form.BitXor) [])
  unfolding expression_of class_number form_number
  bit_xor_gives = binary_gives _ _ _ refl refl refl refl refl refl

  bit_or_gives : Gives ⊥ Good ShapeGood (binary_shape tokens) (flat (expression_of form.BitOr) [])
  unfolding expression_of class_number form_number
  bit_or_gives = binary_gives _ _ _ refl refl refl refl refl refl

  and_gives : Gives ⊥ Good ShapeGood (binary_shape tokens) (flat (expression_of form.And) [])
  unfolding expression_of class_number form_number
  and_gives = binary_gives _ _ _ refl refl refl refl refl refl

  or_gives : Gives ⊥ Good ShapeGood (binary_shape tokens) (flat (expression_of form.Or) [])
  unfolding expression_of class_number form_number
  or_gives = binary_gives _ _ _ refl refl refl refl refl refl

  assignment_gives : Gives ⊥ Good ShapeGood (assignment_shape tokens) (flat (expression_of form.Assignment) [])
  unfolding assignment_shape expression_of class_number form_number
  assignment_gives = on_gives (BetweenGood assignments) between _ _ (between_gives assignments _ _ _ refl refl refl refl refl refl) assignment_good

  conditional_gives : Gives ⊥ Good ShapeGood conditional_shape (flat (expression_of form.Conditional) [])
  unfolding conditional_shape conditional expression_of class_number form_number
  conditional_gives = map_gives _ _ _ (next_gives value_cs value_fs _ _ _ refl refl (λ c vc gc. sign_gives _ _ _ _ refl (next_gives value_cs value_fs _ _ _ refl refl (λ t vt gt. sign_gives _ _ _ _ refl
      (last_gives value_cs value_fs _ _ refl refl (λ e ve ge. (tt, ((gc, vc), ((gt, vt), ((ge, ve), tt))))))))))

  index_gives : Gives ⊥ Good ShapeGood index_shape (flat (expression_of form.Index) [])
  unfolding index_shape index expression_of class_number form_number
  index_gives = map_gives _ _ _ (next_gives value_cs value_fs _ _ _ refl refl (λ x v g. sign_gives _ _ _ _ refl (next_gives value_cs value_fs _ _ _ refl refl (λ i w h. sign_gives _ _ _ _ refl
      (ended_gives _ (tt, ((g, v), ((h, w), tt))))))))

  conversion_gives : Gives ⊥ Good ShapeGood conversion_shape (flat (expression_of form.Conversion) [])
  unfolding conversion_shape conversion expression_of class_number form_number
  conversion_gives = map_gives _ _ _ (next_gives type_cs type_fs _ _ _ refl refl (λ t v g. sign_gives _ _ _ _ refl (next_gives value_cs value_fs _ _ _ refl refl (λ i w h. sign_gives _ _ _ _ refl
      (ended_gives _ (((g, v), tt), ((h, w), tt)))))))

  call_gives : Gives ⊥ Good ShapeGood call_shape (flat (expression_of form.Call) [])
  unfolding call_shape call expression_of class_number form_number
  call_gives = map_gives _ _ _ (next_gives value_cs value_fs _ _ _ refl refl (λ f v g. sign_gives _ _ _ _ refl (map_gives _ _ _ (lone_gives class.CloseParen (maybe args) refl
      (λ ys m e. (tt, ((g, v), items_good (maybe args) refl ys m e)))))))

  braces_gives : Gives ⊥ Good ShapeGood braces_shape (flat (expression_of form.Braces) [])
  unfolding braces_shape in_braces expression_of class_number form_number
  braces_gives = map_gives _ _ _ (sign_gives _ _ _ _ refl (lone_gives class.CloseBrace (maybe (list_of init)) refl (λ ys m e. (tt, items_good (maybe (list_of init)) refl ys m e))))

  dynamic_gives : Gives ⊥ Good ShapeGood dynamic_cast_shape (flat (expression_of form.DynamicCast) [])
  unfolding dynamic_cast_shape dynamic_cast dynamic_value expression_of class_number form_number
  dynamic_gives = map_gives _ _ _ (sign_gives _ _ _ _ refl (sign_gives _ _ _ _ refl (either_gives _ _ _ _
      (flat_gives _ _ _ (next_gives type_cs type_fs _ _ _ refl refl (λ t v g. sign_gives _ _ _ _ refl (sign_gives _ _ _ _ refl (sign_gives _ _ _ _ refl (next_gives value_cs value_fs _ _ _ refl refl (λ x w h. sign_gives _ _ _ _ refl (ended_gives _ (((g, v), tt), ((h, w), tt))))))))))
      (flat_gives _ _ _ (next_gives type_cs type_fs _ _ _ refl refl (λ t v g. sign_gives _ _ _ _ refl (sign_gives _ _ _ _ refl (sign_gives _ _ _ _ refl (next_gives value_cs value_fs _ _ _ refl refl (λ x w h. sign_gives _ _ _ _ refl (ended_gives _ (((g, v), tt), ((h, w), tt)))))))))))))

  -- without arguments, or with them
  new_gives : Gives ⊥ Good ShapeGood new_shape (flat (expression_of form.New) [])
  unfolding new_shape new_object new_arguments expression_of class_number form_number
  new_gives = map_gives _ _ _ (sign_gives _ _ _ _ refl (next_gives type_cs type_fs _ _ _ refl refl (λ t v g. map_gives _ _ _ (maybe_gives _ _ _ (none_gives _ (((g, v), tt), tt))
      (cons_gives new_arguments (λ xs. on (sign_cut (class.OpenParen ∷ class.ConversionParen ∷ []) xs) (all_to class.CloseParen)) _ refl (λ x xs. refl)
      (sign_gives _ _ _ _ refl (lone_gives class.CloseParen (maybe args) refl (λ ys m e. (((g, v), tt), items_good (maybe args) refl ys m e)))))))))

  -- in parentheses: a value, or a cast
  abbrev BracketGood : Bracket → Type 0
  BracketGood b = ShapeGood (in_bracket b)

  bracket_inner : (t : Part) (p : Bool) → ValuePart t → Gives ⊥ Good BracketGood (bracket_end t p) []
  unfolding bracket_end
  bracket_inner t p g = none_gives _ (tt, (g, tt))

  bracket_cast : (t : Part) (p : Bool) (e : Expression) → single e ≡ true → consists value_cs value_fs e ≡ true → TypePart tokens n t → Gives ⊥ Good BracketGood (bracket_end t p) (e ∷ [])
  unfolding bracket_end
  bracket_cast t p e h c g = record {
    there = λ xs m f.
        let r = front_among value_cs value_fs e [] h c xs m f in
        subst (Has BracketGood) (sym (ap (λ xs. bracket_end t p xs) (r.2 ∙ ap (λ zs. r.0 ∷ zs) (nothing_left r.1 r.4)))) ((g, tt), ((r.5, r.3), tt));
  }

  bracket_gives : Gives ⊥ Good ShapeGood bracket_shape (flat (expression_of form.Bracket) [])
  unfolding bracket_shape bracket expression_of class_number form_number
  bracket_gives = map_gives _ _ _ (sign_gives _ _ _ _ refl (either_gives _ _ _ _
      (flat_gives _ _ _ (next_gives value_cs value_fs _ _ _ refl refl (λ t v g. may_not_gives _ (λ p. on (sign_cut (class.CloseParen ∷ []) p.1) (bracket_end t p.0)) _ refl (sign_gives _ _ _ _ refl (bracket_inner t false (g, v))))))
      (flat_gives _ _ _ (either_gives _ _ _ _
      (flat_gives _ _ _ (next_gives type_cs type_fs _ _ _ refl refl (λ t v g. may_gives _ _ (λ p. on (sign_cut (class.CloseParen ∷ []) p.1) (bracket_end t p.0)) _ refl refl (λ p. sign_gives _ _ _ _ refl (bracket_cast t p _ refl refl (g, v))))))
      (flat_gives _ _ _ (next_gives type_cs type_fs _ _ _ refl refl (λ t v g. may_gives _ _ (λ p. on (sign_cut (class.CloseParen ∷ []) p.1) (bracket_end t p.0)) _ refl refl (λ p. sign_gives _ _ _ _ refl (bracket_cast t p _ refl refl (g, v))))))))))

  -- a template with its arguments
  generic_good : (o : Option Named) → Has (NamedGood tokens n) o → Has ShapeGood (option_map (λ n. record { what = operation.Generic n.name; types = n.args; parts = [] }) o)
  generic_good None h = absurd h
  generic_good (Some u) h = (h, tt)

  generic_shape_type : (xs : List Part) → Matches (expression_of form.GenericType) (heads xs) → Every Good xs → Has ShapeGood (generic_shape tokens xs)
  unfolding generic_shape expression_of
  generic_shape_type xs m g = generic_good (generic_named tokens xs) (generic_type_has tokens n xs m g)

  generic_shape_function : (xs : List Part) → Matches (expression_of form.GenericFunction) (heads xs) → Every Good xs → Has ShapeGood (generic_shape tokens xs)
  unfolding generic_shape expression_of
  generic_shape_function xs m g = generic_good (generic_named tokens xs) (generic_function_has tokens n xs m g)

  -- the nodes of values
  node_shape : (f : Form) → listed (form_number f) value_fs ≡ true → (xs : List Part) → Matches (expression_of f) (heads xs) → Every Good xs → Has ShapeGood (form_shape tokens f xs)
  unfolding form_number form_shape
  node_shape form.Program h xs m g = false_true h
  node_shape form.Item h xs m g = false_true h
  node_shape form.Template h xs m g = false_true h
  node_shape form.GenericType h xs m g = generic_shape_type xs m g
  node_shape form.Braces h xs m g = given_by form.Braces _ braces_gives xs m g
  node_shape form.Enumeration h xs m g = false_true h
  node_shape form.Class h xs m g = false_true h
  node_shape form.Member h xs m g = false_true h
  node_shape form.Block h xs m g = false_true h
  node_shape form.Empty h xs m g = false_true h
  node_shape form.Simple h xs m g = false_true h
  node_shape form.If h xs m g = false_true h
  node_shape form.While h xs m g = false_true h
  node_shape form.Do h xs m g = false_true h
  node_shape form.For h xs m g = false_true h
  node_shape form.Switch h xs m g = false_true h
  node_shape form.Break h xs m g = false_true h
  node_shape form.Continue h xs m g = false_true h
  node_shape form.Return h xs m g = false_true h
  node_shape form.Delete h xs m g = false_true h
  node_shape form.GenericFunction h xs m g = generic_shape_function xs m g
  node_shape form.Bracket h xs m g = given_by form.Bracket _ bracket_gives xs m g
  node_shape form.Scope h xs m g = given_by form.Scope _ scope_gives xs m g
  node_shape form.Conversion h xs m g = given_by form.Conversion _ conversion_gives xs m g
  node_shape form.New h xs m g = given_by form.New _ new_gives xs m g
  node_shape form.DynamicCast h xs m g = given_by form.DynamicCast _ dynamic_gives xs m g
  node_shape form.MemberAccess h xs m g = given_by form.MemberAccess _ member_gives xs m g
  node_shape form.Index h xs m g = given_by form.Index _ index_gives xs m g
  node_shape form.Call h xs m g = given_by form.Call _ call_gives xs m g
  node_shape form.Postfix h xs m g = given_by form.Postfix _ postfix_gives xs m g
  node_shape form.Unary h xs m g = given_by form.Unary _ unary_gives xs m g
  node_shape form.Product h xs m g = given_by form.Product _ product_gives xs m g
  node_shape form.Sum h xs m g = given_by form.Sum _ sum_gives xs m g
  node_shape form.Shift h xs m g = given_by form.Shift _ shift_gives xs m g
  node_shape form.Relation h xs m g = given_by form.Relation _ relation_gives xs m g
  node_shape form.Equality h xs m g = given_by form.Equality _ equality_gives xs m g
  node_shape form.BitAnd h xs m g = given_by form.BitAnd _ bit_and_gives xs m g
  node_shape form.BitXor h xs m g = given_by form.BitXor _ bit_xor_gives xs m g
  node_shape form.BitOr h xs m g = given_by form.BitOr _ bit_or_gives xs m g
  node_shape form.And h xs m g = given_by form.And _ and_gives xs m g
  node_shape form.Or h xs m g = given_by form.Or _ or_gives xs m g
  node_shape form.Conditional h xs m g = given_by form.Conditional _ conditional_gives xs m g
  node_shape form.Assignment h xs m g = given_by form.Assignment _ assignment_gives xs m g

  -- a token that is a value
  token_shape : (p : Part) → IsToken tokens value_cs p → Has ShapeGood (on (token tokens p) (λ t. option_map (λ o. plain o []) (token_value t)))
  token_shape p t = subst (λ x. Has ShapeGood (on x (λ t. option_map (λ o. plain o []) (token_value t)))) (sym t.is)
      (has_map ShapeGood _ (token_value t.own) (is_has _ (token_value t.own) (value_was t.before t.own t.behind t.classed) (λ o. (tt, tt))))

-- the shape of each value
shape_has : (tokens : List (Token × Span)) (n : ℕ) (p : Part) → IsFormed tokens (suc n) p → Among value_cs value_fs p → Has (ShapeGood tokens n) (shape tokens p (inner (classes_of tokens) p))
unfolding shape
shape_has tokens n p is h = go (out-Tree p.tree) refl
  where
    go : (x : Tree-F Tree) → out-Tree p.tree ≡ x → Has (ShapeGood tokens n) (shape_in tokens p (inner (classes_of tokens) p) (out-Tree p.tree))
    go (Tree-F.Leaf k) e =
        subst (λ x. Has (ShapeGood tokens n) (shape_in tokens p (inner (classes_of tokens) p) x)) (sym e)
        (token_shape tokens n p (leaf_token tokens (suc n) value_cs value_fs p k is h refl e))
    go (Tree-F.Node f ts) e =
        let i = inner_formed tokens n p f ts is e in
        subst (λ x. Has (ShapeGood tokens n) (shape_in tokens p (inner (classes_of tokens) p) x)) (sym e)
        (node_shape tokens n f (node_form tokens (suc n) value_cs value_fs p f ts is h e) (inner (classes_of tokens) p) i.0 i.1)

-- each value is read
pub value_read : (tokens : List (Token × Span)) (n : ℕ) (place : Place) (p : Part) → ValuePart tokens n p → Is (value tokens (classes_of tokens) n place p)
unfolding value
value_read tokens zero place p g = none_below _ g.0.deep
value_read tokens (suc n) place p g =
    has_on (ShapeGood tokens n) (λ x. Unit {0}) (shape tokens p (inner (classes_of tokens) p)) _ (shape_has tokens n p g.0 g.1)
    (λ s good. has_on (Every (λ x. Unit {0})) (λ x. Unit {0}) (each (type_use tokens (classes_of tokens) n (place_of place p)) s.types) _
    (each_has (TypeGood tokens n) (λ x. Unit {0}) (type_use tokens (classes_of tokens) n (place_of place p)) (λ t g. type_read tokens n (place_of place p) t g) s.types good.0)
    (λ ts _. has_map (λ x. Unit {0}) _ (each (value tokens (classes_of tokens) n (place_of place p)) s.parts)
    ((each_is (ValuePart tokens n) (value tokens (classes_of tokens) n (place_of place p)) (λ q g. value_read tokens n (place_of place p) q g) s.parts good.1))))
