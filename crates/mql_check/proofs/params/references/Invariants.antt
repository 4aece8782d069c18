use Rattle.std.proofs.Common.{◌≡◌, ◌++◌, length, map}
use Rattle.mql_check.specs.Functions.{is_reference}
use Rattle.mql_check.proofs.params.references.Given as goal

abbrev pub invariant-loop-rest : goal.invariant-loop-rest
invariant-loop-rest l = l.all ++ map is_reference l.rest ≡ map is_reference l.fn.params

abbrev pub decreases-loop-rest : goal.decreases-loop-rest
decreases-loop-rest l = length l.rest
