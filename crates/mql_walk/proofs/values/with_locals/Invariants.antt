use Rattle.std.proofs.Common.{◌≡◌, ℕ, Bool, true, List, [], ◌∷◌, ◌++◌, map, take}
use Rattle.std.specs.List.{flat_map}
use Rattle.mql_names.specs.Things.{variable_name, param_variable}
use Rattle.mql_walk.specs.Things.{told_by, value_things, dimension_things, variables_things, list_things, all_behind, member_things, enumerator_things, item_things}
use Rattle.mql_walk.specs.Things as thing
use Rattle.mql_walk.proofs.values.with_locals.Given as goal

abbrev pub invariant-loop-v : goal.invariant-loop-v
invariant-loop-v l = l.locals ≡ l.fn.locals ++ map variable_name (take l.v-index l.variables)
