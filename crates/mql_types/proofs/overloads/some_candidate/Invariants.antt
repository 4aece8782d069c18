use Rattle.std.proofs.Common.{◌≡◌, length}
use Rattle.mql_types.specs.Overloads.{some_candidate}
use Rattle.mql_types.proofs.overloads.some_candidate.Given as goal

abbrev pub invariant-loop-rest : goal.invariant-loop-rest
invariant-loop-rest l =
    some_candidate l.way l.name l.arguments l.rest ≡ some_candidate l.fn.way l.fn.name l.fn.arguments l.fn.all

abbrev pub decreases-loop-rest : goal.decreases-loop-rest
decreases-loop-rest l = length l.rest
