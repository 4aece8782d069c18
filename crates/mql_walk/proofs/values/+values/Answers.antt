use Rattle.std.proofs.Common.{◌≡◌, ℕ, Bool, true, false, arith, refl, sym, ap, ◌∙◌, ◌++◌, List, [], ◌∷◌, map, take}
use Rattle.std.specs.List.{flat_map}
use Rattle.std.proofs.lemmas.List.{take_more}
use Rattle.std.proofs.lemmas.Grind.{common_steps}
use Rattle.mql_names.specs.Faults.{told, sooner}
use Rattle.mql_names.specs.Things.{variable_name, param_variable, shares, behind}
use Rattle.mql_walk.specs.Things.{told_by, value_things, dimension_things, start_things, variable_things, variables_things, statement_things, list_things, all_behind, result_things, function_things, inner_things, member_things, enumerator_things, item_things}
use Rattle.mql_walk.specs.Things as thing
use Rattle.mql_walk.proofs.Joined.{each_more, types_more, behind_one, at_value, value_place, value_what, value_types, value_parts, whole_variable, variables_more, names_more, parts_more, behind_more, front_stays, front_of_variables, at_statement, statement_place, statement_kind, statement_locals, statement_values, statement_parts, whole_function, params_more, param_names_more}
use Rattle.mql_walk.proofs.values.+values.Goals as goal

pub values_told-loop-v-preserved : goal.values_told-loop-v-preserved
values_told-loop-v-preserved g t c =
    let e = take_more c.args.values.now c.loop-v.v-index c.v-item.result c.loop-v-test.true ∙ ap (λ x. take c.loop-v.v-index c.args.values.now ++ x ∷ []) (sym c.v-item.is) in
    rw e (c.sooner-told.ensures ∙ each_more (g.J.Judge.breaks c.args.judge.now) (value_things c.args.locals.now) (take c.loop-v.v-index c.args.values.now) c.v-item.result c.loop-v.told c.value_told.result c.loop-v.invariant c.value_told.ensures)

pub value_told-returns : goal.value_told-returns
value_told-returns g t c =
    let h : c.on_value-own.result ≡ told (g.J.Judge.breaks c.args.judge.now (thing.value c.args.locals.now (value_place c.args.v.now) (value_what c.args.v.now))) = grind (arith, common_steps) in
    let e3 : c.as_slice.result.now ≡ value_types c.args.v.now = grind (arith, common_steps) in
    let e4 : c.as_slice-2.result.now ≡ value_parts c.args.v.now = grind (arith, common_steps) in
    at_value (g.J.Judge.breaks c.args.judge.now) c.args.locals.now c.args.v.now (value_place c.args.v.now) (value_what c.args.v.now) c.as_slice.result.now c.as_slice-2.result.now
    c.sooner-2.result c.on_value-own.result c.types_told-inner.result c.values_told-rest.result refl refl e3 e4 h c.types_told-inner.ensures c.values_told-rest.ensures
    (c.sooner-2.ensures ∙ ap (sooner c.on_value-own.result) c.sooner.ensures)
