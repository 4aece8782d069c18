use Rattle.std.proofs.Common.{◌≡◌, length}
use Rattle.mql_scope.specs.Names.{stands_at}
use Rattle.mql_starts.specs.Starts.{stepped_all}
use Rattle.mql_starts.proofs.initialisers.place_of.Given as goal

abbrev pub invariant-loop-rest : goal.invariant-loop-rest
invariant-loop-rest l =
    stepped_all l.e l.rest ≡ stepped_all (stands_at l.fn.stands) l.fn.steps

abbrev pub decreases-loop-rest : goal.decreases-loop-rest
decreases-loop-rest l = length l.rest
