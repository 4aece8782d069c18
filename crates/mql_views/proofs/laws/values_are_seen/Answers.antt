use Rattle.mql_views.proofs.ValueForms.{postfix_seen, unary_seen, product_seen, sum_seen, shift_seen, relation_seen, equality_seen, bit_and_seen, bit_xor_seen, bit_or_seen, and_seen, or_seen, assignment_seen, member_access_seen, scope_seen, conditional_seen, index_seen, conversion_seen, bracket_seen, call_seen, generic_type_seen, generic_function_seen, new_seen, dynamic_cast_seen, braces_seen}
use Rattle.mql_views.proofs.laws.values_are_seen.Goals as goal

pub returns : goal.returns
returns c = record {
  postfixs = postfix_seen;
  unarys = unary_seen;
  products = product_seen;
  sums = sum_seen;
  shifts = shift_seen;
  relations = relation_seen;
  equalitys = equality_seen;
  bit_ands = bit_and_seen;
  bit_xors = bit_xor_seen;
  bit_ors = bit_or_seen;
  ands = and_seen;
  ors = or_seen;
  assignments = assignment_seen;
  member_accesss = member_access_seen;
  scopes = scope_seen;
  conditionals = conditional_seen;
  indexs = index_seen;
  conversions = conversion_seen;
  brackets = bracket_seen;
  calls = call_seen;
  generic_types = generic_type_seen;
  generic_functions = generic_function_seen;
  news = new_seen;
  dynamic_casts = dynamic_cast_seen;
  bracess = braces_seen;
}
