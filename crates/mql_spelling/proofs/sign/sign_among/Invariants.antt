use Rattle.std.proofs.Common.{◌≡◌, length}
use Rattle.mql_spelling.specs.Signs.{sign_spelling}
use Rattle.mql_spelling.specs.Spelled.{spelled_among}
use Rattle.mql_spelling.proofs.sign.sign_among.Given as goal

abbrev pub invariant-loop-rest : goal.invariant-loop-rest
invariant-loop-rest l = spelled_among sign_spelling l.rest l.units ≡ spelled_among sign_spelling l.fn.signs l.fn.units

abbrev pub decreases-loop-rest : goal.decreases-loop-rest
decreases-loop-rest l = length l.rest
