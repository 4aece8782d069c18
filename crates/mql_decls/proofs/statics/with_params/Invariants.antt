use Rattle.std.proofs.Common.{◌≡◌, ◌++◌, [], map, drop}
use Rattle.std.specs.List.{flat_map}
use Rattle.mql_names.specs.Things.{variable_name, param_variable}
use Rattle.mql_walk.specs.Things.{variables_things, list_things, all_behind}
use Rattle.mql_decls.specs.Makes.{finding}
use Rattle.mql_decls.proofs.statics.with_params.Given as goal

abbrev pub invariant-loop-q : goal.invariant-loop-q
invariant-loop-q l =
    (l.found ++ flat_map (finding l.finder) (variables_things l.locals (map param_variable (drop l.q-index l.params))) ≡ l.fn.found ++ flat_map (finding l.finder) (variables_things [] (map param_variable l.params)))
    × (l.locals ++ map variable_name (map param_variable (drop l.q-index l.params)) ≡ map variable_name (map param_variable l.params))
