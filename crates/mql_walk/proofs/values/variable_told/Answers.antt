use Rattle.std.proofs.Common.{◌≡◌, ℕ, Bool, true, false, arith, refl, sym, ap, ◌∙◌, ◌++◌, List, [], ◌∷◌, map, take}
use Rattle.std.specs.List.{flat_map}
use Rattle.std.proofs.lemmas.List.{take_more}
use Rattle.std.proofs.lemmas.Grind.{common_steps}
use Rattle.mql_names.specs.Faults.{told, sooner}
use Rattle.mql_names.specs.Things.{variable_name, param_variable, shares, behind}
use Rattle.mql_walk.specs.Things.{told_by, value_things, dimension_things, start_things, variable_things, variables_things, statement_things, list_things, all_behind, result_things, function_things, inner_things, member_things, enumerator_things, item_things}
use Rattle.mql_walk.specs.Things as thing
use Rattle.mql_walk.proofs.Joined.{each_more, types_more, behind_one, at_value, value_place, value_what, value_types, value_parts, whole_variable, variables_more, names_more, parts_more, behind_more, front_stays, front_of_variables, at_statement, statement_place, statement_kind, statement_locals, statement_values, statement_parts, whole_function, params_more, param_names_more}
use Rattle.mql_walk.proofs.values.variable_told.Goals as goal

pub returns : goal.returns
returns g c =
    let d = rw c.as_slice.ensures at c.dimensions_told-dimensions.ensures in
    whole_variable (g.J.Judge.breaks c.args.judge.now) c.args.locals.now c.args.v.now c.sooner-3.result c.type_told-of.result c.in_ok-own.own c.dimensions_told-dimensions.result c.start_told-start.result
    c.type_told-of.ensures c.in_ok-own.ensures d c.start_told-start.ensures
    (c.sooner-3.ensures ∙ ap (sooner c.type_told-of.result) (c.sooner-2.ensures ∙ ap (sooner c.in_ok-own.own) c.sooner.ensures))
