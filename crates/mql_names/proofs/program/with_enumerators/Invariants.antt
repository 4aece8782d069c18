use Rattle.std.proofs.Common.{List, ◌++◌, map, take}
use Rattle.mql_names.specs.Maps.{Means}
use Rattle.mql_names.specs.Meanings.{Meant, enumerator_meant}
use Rattle.mql_names.proofs.program.with_enumerators.Given as goal

abbrev pub invariant-loop-enumerator : goal.invariant-loop-enumerator
invariant-loop-enumerator l = (ms : List Meant) → Means l.fn.names ms → Means l.names (ms ++ map enumerator_meant (take l.enumerator-index l.enumerators))
