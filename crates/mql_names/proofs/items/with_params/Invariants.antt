use Rattle.std.proofs.Common.{◌≡◌, ◌++◌, map, take}
use Rattle.mql_names.specs.Things.{variable_named, param_variable}
use Rattle.mql_names.proofs.items.with_params.Given as goal

abbrev pub invariant-loop-param : goal.invariant-loop-param
invariant-loop-param l = l.named ≡ l.fn.named ++ map variable_named (map param_variable (take l.param-index l.params))
