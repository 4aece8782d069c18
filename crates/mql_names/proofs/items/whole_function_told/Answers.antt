use Rattle.std.proofs.Common.{ap, ◌∙◌}
use Rattle.mql_names.specs.Faults.{sooner}
use Rattle.mql_names.specs.Maps.{meaning}
use Rattle.mql_names.proofs.Joined.{whole_function}
use Rattle.mql_names.proofs.items.whole_function_told.Goals as goal

pub returns : goal.returns
returns c =
    let params = rw c.as_slice.ensures at c.params_told-params.ensures in
    whole_function (meaning c.args.names.now) c.args.f.now c.body_parts.result.now c.sooner-4.result c.function_told-own.result c.result_told-of.result c.params_told-params.result c.in_ok-scope.scope c.in_ok-body.body
    c.body_parts.ensures c.function_told-own.ensures c.result_told-of.ensures params c.in_ok-scope.ensures c.in_ok-body.ensures
    (c.sooner-4.ensures ∙ ap (sooner c.function_told-own.result) (c.sooner-3.ensures ∙ ap (sooner c.result_told-of.result) (c.sooner-2.ensures ∙ ap (sooner c.params_told-params.result) c.sooner.ensures)))
