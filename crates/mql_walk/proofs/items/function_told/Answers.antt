use Rattle.std.proofs.Common.{◌≡◌, ℕ, Bool, true, false, arith, refl, sym, ap, ◌∙◌, ◌++◌, List, [], ◌∷◌, map, take}
use Rattle.std.specs.List.{flat_map}
use Rattle.std.proofs.lemmas.List.{take_more}
use Rattle.std.proofs.lemmas.Grind.{common_steps}
use Rattle.mql_names.specs.Faults.{told, sooner}
use Rattle.mql_names.specs.Things.{variable_name, param_variable, shares, behind}
use Rattle.mql_walk.specs.Things.{told_by, value_things, dimension_things, start_things, variable_things, variables_things, statement_things, list_things, all_behind, result_things, function_things, inner_things, member_things, enumerator_things, item_things}
use Rattle.mql_walk.specs.Things as thing
use Rattle.mql_walk.proofs.Joined.{each_more, types_more, behind_one, at_value, value_place, value_what, value_types, value_parts, whole_variable, variables_more, names_more, parts_more, behind_more, front_stays, front_of_variables, at_statement, statement_place, statement_kind, statement_locals, statement_values, statement_parts, whole_function, params_more, param_names_more}
use Rattle.mql_walk.proofs.items.function_told.Goals as goal

pub returns : goal.returns
returns g c =
    let br = g.J.Judge.breaks c.args.judge.now in
    let f = c.args.f.now in
    let params = c.in_ok-params.ensures in
    let p0 : c.in_ok-params.params ≡ told_by br (variables_things [] (map param_variable f.params)) = params.0 ∙ ap (λ qs. told_by br (variables_things [] (map param_variable qs))) c.as_slice.ensures in
    let p1 : c.in_ok-params.locals ≡ map variable_name (map param_variable f.params) = params.1 ∙ ap (λ qs. map variable_name (map param_variable qs)) c.as_slice.ensures in
    whole_function br f c.in_ok-params.locals c.body_parts.result.now c.sooner-3.result c.on_function-own.result c.result_told-of.result c.in_ok-params.params c.in_ok-body.body
    c.on_function-own.ensures c.result_told-of.ensures p0 p1 c.body_parts.ensures c.in_ok-body.ensures.0
    (c.sooner-3.ensures ∙ ap (sooner c.on_function-own.result) (c.sooner-2.ensures ∙ ap (sooner c.result_told-of.result) c.sooner.ensures))
