use Rattle.std.proofs.Common.{◌≡◌, ℕ, List, map, take}
use Rattle.mql_names.specs.Maps.{meaning}
use Rattle.mql_names.specs.Things.{variables_things, param_variable}
use Rattle.mql_names.specs.Rules.{told_of}
use Rattle.mql_names.proofs.items.params_told.Given as goal

abbrev pub invariant-loop-param : goal.invariant-loop-param
invariant-loop-param l = (locals : List (List ℕ)) → l.told ≡ told_of (meaning l.names) (variables_things locals (map param_variable (take l.param-index l.params)))
