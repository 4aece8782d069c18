use Rattle.std.proofs.Common.{◌≡◌, length}
use Rattle.natives.specs.Structures.{supplied_spelling}
use Rattle.mql_spelling.specs.Spelled.{spelled_among}
use Rattle.natives.proofs.supplied.supplied_among.Given as goal

abbrev pub invariant-loop-rest : goal.invariant-loop-rest
invariant-loop-rest l =
    spelled_among supplied_spelling l.rest l.units ≡ spelled_among supplied_spelling l.fn.supplieds l.fn.units

abbrev pub decreases-loop-rest : goal.decreases-loop-rest
decreases-loop-rest l = length l.rest
