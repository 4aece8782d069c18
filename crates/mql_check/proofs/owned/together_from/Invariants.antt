use Rattle.std.proofs.Common.{◌≡◌, ◌∷◌, length}
use Rattle.mql_check.specs.Variables.{declarations, together, with_more}
use Rattle.mql_check.proofs.owned.together_from.Given as goal

abbrev pub invariant-loop-rest : goal.invariant-loop-rest
invariant-loop-rest l = with_more l.g (declarations l.rest) ≡ together (l.fn.first ∷ l.fn.others)

abbrev pub decreases-loop-rest : goal.decreases-loop-rest
decreases-loop-rest l = length l.rest
