use Rattle.std.proofs.Common.{◌≡◌, length}
use Rattle.mql_meaning.specs.StringFunctions.{trimmed_left}
use Rattle.native_strings.proofs.trims.trimmed_left.Given as goal

abbrev pub invariant-loop-rest : goal.invariant-loop-rest
invariant-loop-rest l = trimmed_left l.rest ≡ trimmed_left l.text

abbrev pub decreases-loop-rest : goal.decreases-loop-rest
decreases-loop-rest l = length l.rest
