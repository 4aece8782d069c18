use Rattle.std.proofs.Common.{◌≡◌, length}
use Rattle.mql_statements.specs.Told.{then_told, joined}
use Rattle.mql_statements.proofs.told.joined.Given as goal

abbrev pub invariant-loop-t : goal.invariant-loop-t
invariant-loop-t l = then_told l.all (joined l.rest) ≡ joined l.fn.parts

abbrev pub decreases-loop-t : goal.decreases-loop-t
decreases-loop-t l = length l.rest
