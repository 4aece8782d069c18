-- The named parts of values are there on all parts that their forms have.
use Rattle.std.proofs.Common.{◌≡◌, ℕ, Bool, true, false, List, [], ◌∷◌, Option, Some, None, is_some, refl, ap, ◌∙◌, if◌then◌else◌}
use Rattle.std.specs.Prelude.{option_map}
use Rattle.mql_forms.specs.Numbers.{form_number}
use Rattle.mql_forms.specs.declared.form.Form.{Form}
use Rattle.mql_forms.specs.declared.form.Form.TheVariants as form
use Rattle.mql_grammar.specs.Expression.{Expression, Matches, part, seq}
use Rattle.mql_grammar.specs.Expressions.{expression_of, list_of, pointed_alone, type_arguments, generic_type_parts, generic_function_parts}
use Rattle.mql_grammar.specs.Numbers.{class_number}
use Rattle.mql_grammar.specs.declared.token_class.Class.TheVariants as class
use Rattle.mql_grammar.proofs.Derivatives.{MatchesAll, all_empty}
use Rattle.mql_views.specs.Parts.{Part}
use Rattle.mql_views.specs.Laws.{heads, IsSeen}
use Rattle.mql_views.specs.Cuts.{on, is, sign, all_to}
use Rattle.mql_views.specs.Values.{pair, between, conditional, index, conversion, bracket, bracket_end, call, generic, new_arguments, new_object, dynamic_cast, dynamic_value, in_braces}
use Rattle.mql_views.proofs.Stands.{Stands, flat, flattened, all_of, sign_stands, next_stands, last_stands, map_stands, ended_stands, all_to_map, all_to_stands, either_stands, may_not_stands, may_so_stands, may_stands, some_stands, same_stands, cut_single, cut_one, flat_stands, front_away, edges_away, lone_stands, maybe_stands, cons_stands, none_stands, nothing_left, single, seq_stands, within}

-- from all in a row to a form
pub seen_by : {B : Type 0} (f : Form) (k : List Part → Option B) → Stands k (flat (expression_of f) []) → IsSeen f k
seen_by f k st parts m = st.there parts (flattened (expression_of f) [] (heads parts) (all_of (expression_of f) (heads parts) m))

pub postfix_seen : IsSeen form.Postfix pair
unfolding pair expression_of class_number form_number
postfix_seen = seen_by form.Postfix pair (next_stands _ _ _ refl (λ x. last_stands _ _ refl))

pub unary_seen : IsSeen form.Unary pair
unfolding pair expression_of class_number form_number
unary_seen = seen_by form.Unary pair (next_stands _ _ _ refl (λ x. last_stands _ _ refl))

-- two values with an operator between them
between_stands : (d e f : Expression) → single d ≡ true → single e ≡ true → single f ≡ true → Stands between (d ∷ e ∷ f ∷ [])
unfolding between
between_stands d e f h i j = next_stands d _ _ h (λ x. next_stands e _ _ i (λ o. last_stands f _ j))

pub product_seen : IsSeen form.Product between
unfolding expression_of class_number form_number
product_seen = seen_by form.Product between (between_stands _ _ _ refl refl refl)

pub sum_seen : IsSeen form.Sum between
unfolding expression_of class_number form_number
sum_seen = seen_by form.Sum between (between_stands _ _ _ refl refl refl)

pub shift_seen : IsSeen form.Shift between
unfolding expression_of class_number form_number
shift_seen = seen_by form.Shift between (between_stands _ _ _ refl refl refl)

pub relation_seen : IsSeen form.Relation between
unfolding expression_of class_number form_number
relation_seen = seen_by form.Relation between (between_stands _ _ _ refl refl refl)

pub equality_seen : IsSeen form.Equality between
unfolding expression_of class_number form_number
equality_seen = seen_by form.Equality between (between_stands _ _ _ refl refl refl)

pub bit_and_seen : IsSeen form.BitAnd between
unfolding expression_of class_number form_number
bit_and_seen = seen_by form.BitAnd between (between_stands _ _ _ refl refl refl)

pub bit_xor_seen : IsSeen form.BitXor between
unfolding expression_of class_number form_number
bit_xor_seen = seen_by form.BitXor between (between_stands _ _ _ refl refl refl)

pub bit_or_seen : IsSeen form.BitOr between
unfolding expression_of class_number form_number
bit_or_seen = seen_by form.BitOr between (between_stands _ _ _ refl refl refl)

pub and_seen : IsSeen form.And between
unfolding expression_of class_number form_number
and_seen = seen_by form.And between (between_stands _ _ _ refl refl refl)

pub or_seen : IsSeen form.Or between
unfolding expression_of class_number form_number
or_seen = seen_by form.Or between (between_stands _ _ _ refl refl refl)

pub assignment_seen : IsSeen form.Assignment between
unfolding expression_of class_number form_number
assignment_seen = seen_by form.Assignment between (between_stands _ _ _ refl refl refl)

pub member_access_seen : IsSeen form.MemberAccess between
unfolding expression_of class_number form_number
member_access_seen = seen_by form.MemberAccess between (between_stands _ _ _ refl refl refl)

pub scope_seen : IsSeen form.Scope between
unfolding expression_of class_number form_number
scope_seen = seen_by form.Scope between (between_stands _ _ _ refl refl refl)

pub conditional_seen : IsSeen form.Conditional conditional
unfolding conditional expression_of class_number form_number
conditional_seen = seen_by form.Conditional conditional (next_stands _ _ _ refl (λ c. sign_stands _ _ _ _ refl (next_stands _ _ _ refl (λ t. sign_stands _ _ _ _ refl (last_stands _ _ refl)))))

pub index_seen : IsSeen form.Index index
unfolding index expression_of class_number form_number
index_seen = seen_by form.Index index (next_stands _ _ _ refl (λ a. sign_stands _ _ _ _ refl (next_stands _ _ _ refl (λ i. sign_stands _ _ _ _ refl (ended_stands _)))))

pub conversion_seen : IsSeen form.Conversion conversion
unfolding conversion expression_of class_number form_number
conversion_seen = seen_by form.Conversion conversion (next_stands _ _ _ refl (λ a. sign_stands _ _ _ _ refl (next_stands _ _ _ refl (λ i. sign_stands _ _ _ _ refl (ended_stands _)))))

pub call_seen : IsSeen form.Call call
unfolding call expression_of class_number form_number
call_seen = seen_by form.Call call (next_stands _ _ _ refl (λ f. sign_stands _ _ _ _ refl (all_to_map _ _ _ refl)))

pub dynamic_cast_seen : IsSeen form.DynamicCast dynamic_cast
unfolding dynamic_cast dynamic_value expression_of class_number form_number
dynamic_cast_seen = seen_by form.DynamicCast dynamic_cast (sign_stands _ _ _ _ refl (sign_stands _ _ _ _ refl (either_stands _ _ _ _
    (flat_stands _ _ _ (next_stands _ _ _ refl (λ t. sign_stands _ _ _ _ refl (sign_stands _ _ _ _ refl (sign_stands _ _ _ _ refl (next_stands _ _ _ refl (λ v. sign_stands _ _ _ _ refl (ended_stands _))))))))
    (flat_stands _ _ _ (next_stands _ _ _ refl (λ t. sign_stands _ _ _ _ refl (sign_stands _ _ _ _ refl (sign_stands _ _ _ _ refl (next_stands _ _ _ refl (λ v. sign_stands _ _ _ _ refl (ended_stands _)))))))))))

pub braces_seen : IsSeen form.Braces in_braces
unfolding in_braces expression_of class_number form_number
braces_seen = seen_by form.Braces in_braces (sign_stands _ _ _ _ refl (lone_stands _ _ refl))

pub block_seen : IsSeen form.Block in_braces
unfolding in_braces expression_of class_number form_number
block_seen = seen_by form.Block in_braces (sign_stands _ _ _ _ refl (lone_stands _ _ refl))

-- without arguments, or with them
arguments_none : Stands new_arguments []
unfolding new_arguments
arguments_none = none_stands _ refl

pub new_seen : IsSeen form.New new_object
unfolding new_object new_arguments expression_of class_number form_number
new_seen = seen_by form.New new_object (sign_stands _ _ _ _ refl (next_stands _ _ _ refl (λ t. map_stands _ _ _ (maybe_stands _ _ _ arguments_none
    (cons_stands new_arguments (λ xs. on (sign (class.OpenParen ∷ class.ConversionParen ∷ []) xs) (all_to class.CloseParen)) _ refl (λ x xs. refl)
    (sign_stands _ _ _ _ refl (lone_stands _ _ refl)))))))

-- in parentheses: a value, or a cast
bracket_inner : (t : Part) (p : Bool) → Stands (bracket_end t p) []
unfolding bracket_end
bracket_inner t p = none_stands _ refl

pub bracket_cast : (t : Part) (p : Bool) (e : Expression) → single e ≡ true → Stands (bracket_end t p) (e ∷ [])
unfolding bracket_end
bracket_cast t p e h = record {
  there = λ xs m.
      let r = cut_single e [] h xs m in
      ap (λ xs. is_some (bracket_end t p xs)) (r.2 ∙ ap (λ zs. r.0 ∷ zs) (nothing_left r.1 r.3));
}

pub bracket_seen : IsSeen form.Bracket bracket
unfolding bracket expression_of class_number form_number
bracket_seen = seen_by form.Bracket bracket (sign_stands _ _ _ _ refl (either_stands _ _ _ _
    (flat_stands _ _ _ (next_stands _ _ _ refl (λ t. may_not_stands _ (λ p. on (sign (class.CloseParen ∷ []) p.1) (bracket_end t p.0)) _ refl (sign_stands _ _ _ _ refl (bracket_inner t false)))))
    (flat_stands _ _ _ (either_stands _ _ _ _
    (flat_stands _ _ _ (next_stands _ _ _ refl (λ t. may_stands _ _ (λ p. on (sign (class.CloseParen ∷ []) p.1) (bracket_end t p.0)) _ refl refl (λ p. sign_stands _ _ _ _ refl (bracket_cast t p _ refl)))))
    (flat_stands _ _ _ (next_stands _ _ _ refl (λ t. may_stands _ _ (λ p. on (sign (class.CloseParen ∷ []) p.1) (bracket_end t p.0)) _ refl refl (λ p. sign_stands _ _ _ _ refl (bracket_cast t p _ refl)))))))))

-- templates with their arguments
generic_total : (ds gs : List ℕ) → within gs (class_number class.TypeLess ∷ class_number class.FunctionLess ∷ []) ≡ true → Stands generic (seq (part ds []) (seq (part gs []) type_arguments) ∷ [])
unfolding generic class_number form_number
generic_total ds gs h = seq_stands _ _ _ _ (next_stands (part ds []) _ _ refl (λ f. seq_stands _ _ _ _ (sign_stands _ gs _ _ h (seq_stands _ _ _ _ (all_to_map class.Greater (list_of pointed_alone) _ refl)))))

pub generic_type_seen : IsSeen form.GenericType generic
unfolding expression_of class_number form_number
generic_type_seen parts m = (generic_total (class_number class.TypeName ∷ []) (class_number class.TypeLess ∷ []) refl).there parts (all_of generic_type_parts (heads parts) m)

pub generic_function_seen : IsSeen form.GenericFunction generic
unfolding expression_of class_number form_number
generic_function_seen parts m = (generic_total (class_number class.Name ∷ []) (class_number class.FunctionLess ∷ []) refl).there parts (all_of generic_function_parts (heads parts) m)
