use Rattle.std.proofs.Common.{◌≡◌, ◌++◌, Some, None, refl, sym, ap, ◌∙◌}
use Rattle.mql_scope.specs.Places.{context_at}
use Rattle.mql_expressions.specs.Views.{node_of}
use Rattle.mql_expressions.specs.Rules.{lowest, name_rules, call_rules, operand_rules, value_rules, other_rules}
use Rattle.mql_expressions.proofs.Steps.{one_more, behind}
use Rattle.mql_expressions.proofs.lowest.lowest.Goals as goal

pub returns : goal.returns
unfolding lowest
returns g c =
    let x = context_at g.P.ProgramFacts.program c.args.here.now in
    let n = node_of c.args.n.now in
    behind x n name_rules (call_rules ++ (operand_rules ++ (value_rules ++ other_rules))) _ _ _ c.in_ok-names.ensures
    (behind x n call_rules (operand_rules ++ (value_rules ++ other_rules)) _ _ _ c.lowest_of_calls-calls.ensures
    (behind x n operand_rules (value_rules ++ other_rules) _ _ _ c.in_ok-operands.ensures
    (behind x n value_rules other_rules _ _ _ c.lowest_of_values-values.ensures c.lowest_of_others-others.ensures
    c.either-from_values.ensures)
    c.either-from_operands.ensures)
    c.either-from_calls.ensures)
    c.either.ensures
