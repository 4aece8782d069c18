use Rattle.std.proofs.Common.{◌≡◌, length}
use Rattle.mql_types.specs.Overloads.{some_cheaper}
use Rattle.mql_types.proofs.overloads.some_cheaper.Given as goal

abbrev pub invariant-loop-given : goal.invariant-loop-given
invariant-loop-given l =
    some_cheaper l.way l.given l.first l.second ≡ some_cheaper l.fn.way l.fn.arguments l.fn.ps l.fn.qs

abbrev pub decreases-loop-given : goal.decreases-loop-given
decreases-loop-given l = length l.given
