use Rattle.std.proofs.Common.{◌≡◌, length}
use Rattle.mql_names.specs.Scopes.{is_among}
use Rattle.mql_walk.proofs.values.is_local.Given as goal

abbrev pub invariant-loop-rest : goal.invariant-loop-rest
invariant-loop-rest l = is_among l.name l.rest ≡ is_among l.name l.locals

abbrev pub decreases-loop-rest : goal.decreases-loop-rest
decreases-loop-rest l = length l.rest
