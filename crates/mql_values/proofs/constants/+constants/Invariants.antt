use Rattle.std.proofs.Common.{◌≡◌, map, take}
use Rattle.mql_values.specs.Values.{constant_of}
use Rattle.mql_values.proofs.constants.+constants.Given as goal

abbrev pub invariant-constants_of-loop-v : goal.invariant-constants_of-loop-v
invariant-constants_of-loop-v g l = l.found ≡ map (constant_of (g.S.ConstantScope.numbers l.scope) (g.S.ConstantScope.types l.scope)) (take l.v-index l.of)
