use Rattle.std.proofs.Common.{◌≡◌, ◌++◌, map, take}
use Rattle.mql_names.specs.Things.{variable_named}
use Rattle.mql_names.proofs.walk.with_variables.Given as goal

abbrev pub invariant-loop-v : goal.invariant-loop-v
invariant-loop-v l = l.names ≡ l.fn.names ++ map variable_named (take l.v-index l.variables)
