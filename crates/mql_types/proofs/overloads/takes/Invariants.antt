use Rattle.std.proofs.Common.{◌≡◌, length}
use Rattle.mql_types.specs.Overloads.{takes}
use Rattle.mql_types.proofs.overloads.takes.Given as goal

abbrev pub invariant-loop-given : goal.invariant-loop-given
invariant-loop-given l =
    takes l.way l.given l.rest ≡ takes l.fn.way l.fn.arguments l.fn.parameters

abbrev pub decreases-loop-given : goal.decreases-loop-given
decreases-loop-given l = length l.given
