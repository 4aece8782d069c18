use Rattle.std.proofs.Common.{◌≡◌, ◌+◌, length}
use Rattle.mql_spelling.specs.Real.{digits_len}
use Rattle.mql_spelling.proofs.real.digits_len.Given as goal

abbrev pub invariant-loop-unit : goal.invariant-loop-unit
invariant-loop-unit l = (l.count + digits_len l.rest ≡ digits_len l.fn.units) × (l.count + length l.rest ≡ length l.fn.units)

abbrev pub decreases-loop-unit : goal.decreases-loop-unit
decreases-loop-unit l = length l.rest
