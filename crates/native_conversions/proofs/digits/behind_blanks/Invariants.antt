use Rattle.std.proofs.Common.{◌≡◌, length}
use Rattle.mql_meaning.specs.Texts.{behind_blanks}
use Rattle.native_conversions.proofs.digits.behind_blanks.Given as goal

abbrev pub invariant-loop-rest : goal.invariant-loop-rest
invariant-loop-rest l = behind_blanks l.rest ≡ behind_blanks l.fn.text

abbrev pub decreases-loop-rest : goal.decreases-loop-rest
decreases-loop-rest l = length l.rest
