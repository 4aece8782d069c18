use Rattle.std.proofs.Common.{◌≡◌, ◌++◌, [], map, drop}
use Rattle.std.specs.List.{flat_map}
use Rattle.mql_names.specs.Things.{variable_name, param_variable}
use Rattle.mql_walk.specs.Things.{variables_things, list_things, all_behind}
use Rattle.mql_decls.specs.Makes.{finding}
use Rattle.mql_decls.proofs.statics.+statics.Given as goal

abbrev pub invariant-with_each-loop-s : goal.invariant-with_each-loop-s
invariant-with_each-loop-s l =
    (l.found ++ flat_map (finding l.finder) (list_things l.shared l.inner (drop l.s-index l.parts)) ≡ l.fn.found ++ flat_map (finding l.finder) (list_things l.shared l.fn.locals l.parts))
    × (all_behind l.shared l.inner (drop l.s-index l.parts) ≡ all_behind l.shared l.fn.locals l.parts)
