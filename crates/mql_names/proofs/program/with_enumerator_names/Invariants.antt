use Rattle.std.proofs.Common.{◌≡◌, ◌++◌, map, take}
use Rattle.mql_names.specs.Things.{enumerator_named}
use Rattle.mql_names.proofs.program.with_enumerator_names.Given as goal

abbrev pub invariant-loop-enumerator : goal.invariant-loop-enumerator
invariant-loop-enumerator l = l.named ≡ l.fn.named ++ map (enumerator_named l.place) (take l.enumerator-index l.enumerators)
