use Rattle.std.proofs.Common.{◌≡◌}
use Rattle.mql_meaning.specs.MathFunctions.{multiplied}
use Rattle.native_math.proofs.powers.multiplied.Given as goal

abbrev pub invariant-loop-left : goal.invariant-loop-left
invariant-loop-left l = multiplied l.left l.x l.product ≡ multiplied l.fn.times l.fn.x l.fn.begun

abbrev pub decreases-loop-left : goal.decreases-loop-left
decreases-loop-left l = l.left
