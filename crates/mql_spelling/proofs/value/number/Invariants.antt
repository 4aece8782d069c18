use Rattle.std.proofs.Common.{◌≡◌, length}
use Rattle.mql_spelling.specs.Value.{value_from}
use Rattle.mql_spelling.proofs.value.number.Given as goal

abbrev pub invariant-loop-digit : goal.invariant-loop-digit
invariant-loop-digit l = value_from l.base l.value l.rest ≡ value_from l.base 0 l.fn.digits

abbrev pub decreases-loop-digit : goal.decreases-loop-digit
decreases-loop-digit l = length l.rest
