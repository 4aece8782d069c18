use Rattle.std.proofs.Common.{◌≡◌, ℕ, List, take}
use Rattle.mql_names.specs.Maps.{meaning}
use Rattle.mql_names.specs.Things.{variables_things}
use Rattle.mql_names.specs.Rules.{told_of}
use Rattle.mql_names.proofs.walk.variables_told.Given as goal

abbrev pub invariant-loop-v : goal.invariant-loop-v
invariant-loop-v l = (locals : List (List ℕ)) → l.told ≡ told_of (meaning l.names) (variables_things locals (take l.v-index l.variables))
