use Rattle.std.proofs.Common.{◌≡◌, ◌++◌, [], map, drop}
use Rattle.std.specs.List.{flat_map}
use Rattle.mql_names.specs.Things.{variable_name, param_variable}
use Rattle.mql_walk.specs.Things.{variables_things, list_things, all_behind}
use Rattle.mql_decls.specs.Makes.{finding}
use Rattle.mql_decls.proofs.statics.with_variables.Given as goal

abbrev pub invariant-loop-v : goal.invariant-loop-v
invariant-loop-v l =
    (l.found ++ flat_map (finding l.finder) (variables_things l.inner (drop l.v-index l.variables)) ≡ l.fn.found ++ flat_map (finding l.finder) (variables_things l.fn.locals l.variables))
    × (l.inner ++ map variable_name (drop l.v-index l.variables) ≡ l.fn.locals ++ map variable_name l.variables)
