use Rattle.std.proofs.Common.{◌≡◌, length}
use Rattle.mql_types.specs.Overloads.{none_dearer}
use Rattle.mql_types.proofs.overloads.none_dearer.Given as goal

abbrev pub invariant-loop-given : goal.invariant-loop-given
invariant-loop-given l =
    none_dearer l.way l.given l.first l.second ≡ none_dearer l.fn.way l.fn.arguments l.fn.ps l.fn.qs

abbrev pub decreases-loop-given : goal.decreases-loop-given
decreases-loop-given l = length l.given
