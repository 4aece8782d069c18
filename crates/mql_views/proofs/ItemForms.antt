-- The named parts of items and members are there on all parts that their forms have.
use Rattle.std.proofs.Common.{◌≡◌, Bool, true, false, List, [], ◌∷◌, ◌++◌, map, Option, Some, None, is_some, refl, sym, ap, ◌∙◌, if◌then◌else◌, subst, append_assoc}
use Rattle.std.specs.Prelude.{option_map}
use Rattle.mql_forms.specs.Numbers.{form_number}
use Rattle.mql_forms.specs.declared.form.Form.TheVariants as form
use Rattle.mql_grammar.specs.Expression.{Expression, nothing, either, seq, many, part, Matches}
use Rattle.mql_grammar.specs.Expressions.{a, a_token, a_node, expr, expression_of, maybe, in_order, list_of, name, template_head as head_parts, variables as variables_parts, pointed_alone, more_variables, function as function_parts, item_parts, template_parts, member_parts}
use Rattle.mql_grammar.specs.Forms.{Head}
use Rattle.mql_grammar.specs.Numbers.{class_number}
use Rattle.mql_grammar.specs.declared.token_class.Class.{Class}
use Rattle.mql_grammar.specs.declared.token_class.Class.TheVariants as class
use Rattle.mql_grammar.proofs.Derivatives.{MatchesAll, firsts_all, nullable_all, all_empty}
use Rattle.mql_views.specs.Parts.{Part}
use Rattle.mql_views.specs.Laws.{heads, IsSeen, FunctionsFirst}
use Rattle.mql_views.specs.Cuts.{on, is, must, next, sign, ended, up_to, all_to}
use Rattle.mql_views.specs.Declarations.{Function, Variables, function, variables, variables_typed, store_words, local_words}
use Rattle.mql_views.specs.Items.{Declaration, OfFunction, OfVariables, only_variables, declaration, Item, Group, Declares, group, item, template_head, lone_class, templated, Templated, TemplatedClass, TemplatedFunction, template, Template, Member, member, member_template}
use Rattle.mql_views.proofs.Stands.{Stands, flat, flattened, opened, all_of, within, edges_away, sign_stands, must_stands, next_stands, map_stands, ended_stands, same_stands, all_to_stands, up_to_stands, either_stands, maybe_stands, flat_stands, seq_stands, joined_stands, front_away, map_some, on_on, next_some, cut_one, runs_maybe, runs_none}
use Rattle.mql_views.proofs.StatementForms.{variables_stand, pointed_alone_then}
use Rattle.mql_views.proofs.FunctionForms.{function_total}

pub functions_first : FunctionsFirst
unfolding declaration
functions_first words parts f e = ap (λ (o : Option Function). elim o [ Some g ↦ Some (OfFunction g) | None ↦ option_map OfVariables (only_variables words parts) ]) e

-- one or the other is there
choice : {A B C : Type 0} (f : A → C) (g : B → C) (x : Option A) (y : Option B) → is_some x ≡ true → is_some (elim x [ Some v ↦ Some (f v) | None ↦ option_map g y ]) ≡ true
choice f g None y h = absurd (let w : false ≡ true → ⊥ = λ e. cc in w h)
choice f g (Some v) y h = refl

other : {A B C : Type 0} (f : A → C) (g : B → C) (x : Option A) (y : Option B) → is_some y ≡ true → is_some (elim x [ Some v ↦ Some (f v) | None ↦ option_map g y ]) ≡ true
other f g None y h = map_some g y ∙ h
other f g (Some v) y h = refl

-- variables with their `;`
abbrev stored : Expression
stored = in_order (many (a_token (class.Input ∷ class.StaticInput ∷ class.Static ∷ class.Const ∷ [])) ∷ variables_parts ∷ [])

stored_stand : Stands (variables store_words) (flat stored [])
unfolding class_number form_number
stored_stand = variables_stand store_words _ _ refl refl (λ ws. pointed_alone_then ws _)

stored_seen : (ys : List Part) → Matches stored (heads ys) → is_some (variables store_words ys) ≡ true
stored_seen ys m = stored_stand.there ys (flattened stored [] (heads ys) (all_of stored (heads ys) m))

stored_only : Stands (only_variables store_words) (stored ∷ a class.Semicolon ∷ [])
unfolding only_variables class_number form_number
stored_only = all_to_stands class.Semicolon stored (variables store_words) refl stored_seen

-- the same row by row
abbrev stored_item : Expression
stored_item = in_order (many (a_token (class.Input ∷ class.StaticInput ∷ class.Static ∷ class.Const ∷ [])) ∷ variables_parts ∷ a class.Semicolon ∷ [])

in_three : {B : Type 0} (k : List Part → Option B) (d e f : Expression) → Stands k (seq d e ∷ f ∷ []) → Stands k (seq d (seq e f) ∷ [])
in_three k d e f st = seq_stands _ _ _ _ (record {
  there = λ xs m.
      (joined_stands k d e (f ∷ []) st).there xs (m.0, m.1, m.2, m.3, opened e f [] m.1 m.4);
})

item_variables : Stands item (stored_item ∷ [])
unfolding item declaration
item_variables = in_three _ _ _ _ (record {
  there = λ xs m.
      other Group Declares (group xs) (declaration store_words xs) (other OfFunction OfVariables (function xs) (only_variables store_words xs) (stored_only.there xs m));
})

item_function : Stands item (function_parts ∷ [])
unfolding item declaration
item_function = record {
  there = λ xs m.
      other Group Declares (group xs) (declaration store_words xs) (choice OfFunction OfVariables (function xs) (only_variables store_words xs) (function_total.there xs m));
}

abbrev group_parts : Expression
group_parts = in_order (a class.Input ∷ a class.Group ∷ a class.String ∷ maybe (a class.Semicolon) ∷ [])

group_stands : Stands group (flat group_parts [])
unfolding group class_number form_number
group_stands = sign_stands _ _ _ _ refl (sign_stands _ _ _ _ refl (next_some _ _ refl))

item_group : Stands item (group_parts ∷ [])
unfolding item
item_group = flat_stands _ _ _ (record { there = λ xs m. choice Group Declares (group xs) (declaration store_words xs) (group_stands.there xs m) })

item_total : Stands item (item_parts ∷ [])
item_total = either_stands item group_parts (either stored_item function_parts) [] item_group (either_stands item stored_item function_parts [] item_variables item_function)

pub item_seen : IsSeen form.Item item
unfolding expression_of
item_seen parts m = item_total.there parts (all_of item_parts (heads parts) m)

-- a template's parameters, and what is behind
abbrev type_names : Expression
type_names = list_of (in_order (a class.Typename ∷ name ∷ []))

headed : {B : Type 0} (k : List Part × List Part → Option B) (es : List Expression) → ((ys : List Part) → Stands (λ zs. k (ys, zs)) es) → Stands (λ xs. on (template_head xs) k) (a class.Template ∷ a class.Less ∷ type_names ∷ a class.Greater ∷ es)
unfolding template_head class_number form_number
headed k es st = same_stands _ (λ xs. on (sign (class.Template ∷ []) xs) (λ ys. on (sign (class.Less ∷ []) ys) (λ zs. on (up_to class.Greater zs) k))) _ head_on
    (sign_stands _ _ _ _ refl (sign_stands _ _ _ _ refl (up_to_stands class.Greater type_names _ _ refl (λ ys m. st ys))))
  where
    head_on : (xs : List Part) → on (template_head xs) k ≡ on (sign (class.Template ∷ []) xs) (λ ys. on (sign (class.Less ∷ []) ys) (λ zs. on (up_to class.Greater zs) k))
    head_on xs = on_on (sign (class.Template ∷ []) xs) (λ ys. on (sign (class.Less ∷ []) ys) (up_to class.Greater)) k
        ∙ (λ i. on (sign (class.Template ∷ []) xs) (λ ys. on_on (sign (class.Less ∷ []) ys) (up_to class.Greater) k i))

-- the rows of `template < .. >` before others
head_rows : {B : Type 0} (k : List Part → Option B) (es : List Expression) → Stands k (a class.Template ∷ a class.Less ∷ type_names ∷ a class.Greater ∷ es) → Stands k (head_parts ∷ es)
head_rows k es st = record {
  there = λ xs m.
      let x = opened (a class.Template) (seq (a class.Less) (seq type_names (a class.Greater))) es (heads xs) m in
      let y = opened (a class.Less) (seq type_names (a class.Greater)) es x.1 x.4 in
      let z = opened type_names (a class.Greater) es y.1 y.4 in
      st.there xs (x.0, x.1, x.2, x.3, (y.0, y.1, y.2, y.3, z));
}

lone_class_stands : Stands lone_class (a_node form.Class ∷ [])
unfolding lone_class class_number form_number
lone_class_stands = must_stands _ _ _ _ _ _ refl refl (λ c. ended_stands c)

templated_stands : Stands templated (either (a_node form.Class) function_parts ∷ [])
unfolding templated
templated_stands = either_stands _ _ _ _
    (record { there = λ xs m. choice TemplatedClass TemplatedFunction (lone_class xs) (function xs) (lone_class_stands.there xs m) })
    (record { there = λ xs m. other TemplatedClass TemplatedFunction (lone_class xs) (function xs) (function_total.there xs m) })

template_total : Stands template (template_parts ∷ [])
unfolding template
template_total = seq_stands template head_parts (either (a_node form.Class) function_parts) [] (head_rows template _ (headed _ _ (λ h. map_stands _ templated _ templated_stands)))

pub template_seen : IsSeen form.Template template
unfolding expression_of
template_seen parts m = template_total.there parts (all_of template_parts (heads parts) m)

-- members
abbrev owned : Expression
owned = in_order (maybe (a class.Static) ∷ maybe (a class.Const) ∷ variables_parts ∷ [])

abbrev owned_member : Expression
owned_member = in_order (maybe (a class.Static) ∷ maybe (a class.Const) ∷ variables_parts ∷ a class.Semicolon ∷ [])

owned_stand : Stands (variables local_words) (maybe (a class.Static) ∷ maybe (a class.Const) ∷ pointed_alone ∷ more_variables ∷ [])
unfolding variables class_number form_number
owned_stand = runs_maybe local_words _ _ _ refl (runs_maybe local_words _ _ _ refl (runs_none local_words _ refl))
    (λ p. variables_typed p.0 p.1) (λ ws. pointed_alone_then ws _)

owned_seen : (ys : List Part) → Matches owned (heads ys) → is_some (variables local_words ys) ≡ true
owned_seen ys m =
    let x = opened (maybe (a class.Static)) (seq (maybe (a class.Const)) variables_parts) [] (heads ys) (all_of owned (heads ys) m) in
    let y = opened (maybe (a class.Const)) variables_parts [] x.1 x.4 in
    let z = opened pointed_alone more_variables [] y.1 y.4 in
    owned_stand.there ys (x.0, x.1, x.2, x.3, (y.0, y.1, y.2, y.3, z))

owned_only : Stands (only_variables local_words) (owned ∷ a class.Semicolon ∷ [])
unfolding only_variables class_number form_number
owned_only = all_to_stands class.Semicolon owned (variables local_words) refl owned_seen

joined_row : (d e f : Expression) (hs : List Head) → MatchesAll (d ∷ e ∷ f ∷ []) hs → MatchesAll (seq d e ∷ f ∷ []) hs
joined_row d e f hs m =
    let n = m.4 in
    (m.0 ++ n.0, n.1, m.2 ∙ ap (λ us. m.0 ++ us) n.2 ∙ sym (append_assoc m.0 n.0 n.1), (m.0, n.0, refl, m.3, n.3), n.4)

in_four : {B : Type 0} (k : List Part → Option B) (c d e f : Expression) → Stands k (seq c (seq d e) ∷ f ∷ []) → Stands k (seq c (seq d (seq e f)) ∷ [])
in_four k c d e f st = seq_stands _ _ _ _ (record {
  there = λ xs m.
      let x = opened d (seq e f) [] m.1 m.4 in
      let y = opened e f [] x.1 x.4 in
      (joined_stands k c (seq d e) (f ∷ []) st).there xs (m.0, m.1, m.2, m.3, joined_row d e f m.1 (x.0, x.1, x.2, x.3, y));
})

member_plain : (es : List Expression) → edges_away (class_number class.Template ∷ []) [] (firsts_all es) ≡ true → nullable_all es ≡ false
    → ((xs : List Part) → MatchesAll es (heads xs) → is_some (declaration local_words xs) ≡ true) → Stands member es
unfolding member
member_plain es d n all = record { there = go }
  where
    go : (xs : List Part) → MatchesAll es (heads xs) → is_some (member xs) ≡ true
    go [] m = absurd (let f : false ≡ true → ⊥ = λ e. cc in f (sym n ∙ all_empty es m))
    go (x ∷ xs) m =
        ap (λ (b : Bool). is_some (if b then member_template (x ∷ xs) else option_map (λ d. record { params = []; declares = d }) (declaration local_words (x ∷ xs)))) (front_away (class.Template ∷ []) es d x xs m)
        ∙ map_some _ (declaration local_words (x ∷ xs)) ∙ all (x ∷ xs) m

member_variables : Stands member (owned_member ∷ [])
unfolding declaration class_number form_number
member_variables = member_plain (owned_member ∷ []) refl refl (λ xs m. other OfFunction OfVariables (function xs) (only_variables local_words xs) ((in_four _ _ _ _ _ owned_only).there xs m))

member_function : Stands member (function_parts ∷ [])
unfolding declaration class_number form_number
member_function = member_plain (function_parts ∷ []) refl refl (λ xs m. choice OfFunction OfVariables (function xs) (only_variables local_words xs) (function_total.there xs m))

abbrev headed_rows : List Expression
headed_rows = a class.Template ∷ a class.Less ∷ type_names ∷ a class.Greater ∷ function_parts ∷ []

template_stands : Stands member_template headed_rows
unfolding member_template
template_stands = headed _ _ (λ h. map_stands _ function _ function_total)

member_headed : Stands member headed_rows
unfolding member is
member_headed = record {
  there = λ xs m.
      let r = cut_one (class_number class.Template ∷ []) [] (a class.Less ∷ type_names ∷ a class.Greater ∷ function_parts ∷ []) xs m in
      ap (λ xs. is_some (member xs)) r.2
      ∙ ap (λ (b : Bool). is_some (if b then member_template (r.0 ∷ r.1) else option_map (λ d. record { params = []; declares = d }) (declaration local_words (r.0 ∷ r.1)))) r.3
      ∙ template_stands.there (r.0 ∷ r.1) (subst (λ xs. MatchesAll headed_rows (heads xs)) r.2 m);
}

member_total : Stands member (member_parts ∷ [])
member_total = either_stands member owned_member (seq (maybe head_parts) function_parts) [] member_variables
    (seq_stands member (maybe head_parts) function_parts [] (either_stands member nothing head_parts (function_parts ∷ []) (flat_stands member nothing (function_parts ∷ []) member_function) (head_rows member (function_parts ∷ []) member_headed)))

pub member_seen : IsSeen form.Member member
unfolding expression_of
member_seen parts m = member_total.there parts (all_of member_parts (heads parts) m)
