use Rattle.std.proofs.Common.{sym, ◌∙◌}
use Rattle.mql_values.proofs.Parts.{number_found}
use Rattle.mql_values.proofs.constants.+constants.Goals as goal

pub constant_of-returns-in-Some : goal.constant_of-returns-in-Some
constant_of-returns-in-Some g t c =
    number_found (g.S.ConstantScope.numbers c.args.scope.now) (g.S.ConstantScope.types c.args.scope.now) c.args.v.now
    c.in-Some.number c.number_value.result (sym c.in_ok-number.ensures ∙ c.in-Some.is) c.number_value.ensures
