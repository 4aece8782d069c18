use Rattle.std.proofs.Common.{◌≡◌, ◌++◌, length}
use Rattle.std.specs.List.{flat_map}
use Rattle.mql_check.specs.Items.{enumerator_broken}
use Rattle.mql_check.proofs.items.enumerators_broken.Given as goal

abbrev pub invariant-loop-rest : goal.invariant-loop-rest
invariant-loop-rest g l =
    let p = g.P.ProgramFacts.program l.fn.program in
    l.all ++ flat_map (enumerator_broken p l.fn.place) l.rest ≡ flat_map (enumerator_broken p l.fn.place) l.fn.enumerators

abbrev pub decreases-loop-rest : goal.decreases-loop-rest
decreases-loop-rest g l = length l.rest
