use Rattle.std.proofs.Common.{◌≡◌, length}
use Rattle.mql_types.specs.Overloads.{winner}
use Rattle.mql_types.proofs.overloads.winner.Given as goal

abbrev pub invariant-loop-rest : goal.invariant-loop-rest
invariant-loop-rest l =
    winner l.way l.name l.arguments l.all l.rest ≡ winner l.fn.way l.fn.name l.fn.arguments l.fn.all l.fn.signatures

abbrev pub decreases-loop-rest : goal.decreases-loop-rest
decreases-loop-rest l = length l.rest
