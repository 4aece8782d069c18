use Rattle.std.proofs.Common.{◌≡◌, length}
use Rattle.mql_types.specs.Overloads.{wins}
use Rattle.mql_types.proofs.overloads.wins.Given as goal

abbrev pub invariant-loop-rest : goal.invariant-loop-rest
invariant-loop-rest l =
    wins l.way l.name l.arguments l.f l.rest ≡ wins l.fn.way l.fn.name l.fn.arguments l.fn.f l.fn.all

abbrev pub decreases-loop-rest : goal.decreases-loop-rest
decreases-loop-rest l = length l.rest
