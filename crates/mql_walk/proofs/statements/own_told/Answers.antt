use Rattle.std.proofs.Common.{◌≡◌, ℕ, Bool, true, false, arith, refl, sym, ap, ◌∙◌, ◌++◌, List, [], ◌∷◌, map, take}
use Rattle.std.specs.List.{flat_map}
use Rattle.std.proofs.lemmas.List.{take_more}
use Rattle.std.proofs.lemmas.Grind.{common_steps}
use Rattle.mql_names.specs.Faults.{told, sooner}
use Rattle.mql_names.specs.Things.{variable_name, param_variable, shares, behind}
use Rattle.mql_walk.specs.Things.{told_by, value_things, dimension_things, start_things, variable_things, variables_things, statement_things, list_things, all_behind, result_things, function_things, inner_things, member_things, enumerator_things, item_things}
use Rattle.mql_walk.specs.Things as thing
use Rattle.mql_walk.proofs.Joined.{each_more, types_more, behind_one, at_value, value_place, value_what, value_types, value_parts, whole_variable, variables_more, names_more, parts_more, behind_more, front_stays, front_of_variables, at_statement, statement_place, statement_kind, statement_locals, statement_values, statement_parts, whole_function, params_more, param_names_more}
use Rattle.mql_walk.proofs.statements.own_told.Goals as goal

pub returns : goal.returns
returns g c =
    (c.in_ok-told.ensures.0, grind (arith, common_steps))
