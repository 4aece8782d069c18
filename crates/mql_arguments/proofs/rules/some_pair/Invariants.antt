use Rattle.std.proofs.Common.{◌≡◌, length}
use Rattle.mql_arguments.specs.Arguments.{breaks, some_pair}
use Rattle.mql_arguments.proofs.rules.some_pair.Given as goal

abbrev pub invariant-loop-given : goal.invariant-loop-given
invariant-loop-given l =
    some_pair (breaks l.rule) l.given l.rest ≡ some_pair (breaks l.fn.rule) l.fn.arguments l.fn.parameters

abbrev pub decreases-loop-given : goal.decreases-loop-given
decreases-loop-given l = length l.given
