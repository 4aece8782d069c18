use Rattle.std.proofs.Common.{◌≡◌, length}
use Rattle.mql_names.specs.Scopes.{is_among}
use Rattle.mql_values.specs.Sources.{known_names}
use Rattle.mql_values.proofs.names.is_known.Given as goal

abbrev pub invariant-loop-rest : goal.invariant-loop-rest
invariant-loop-rest l = is_among l.fn.name (known_names l.rest) ≡ is_among l.fn.name (known_names l.fn.locals)

abbrev pub decreases-loop-rest : goal.decreases-loop-rest
decreases-loop-rest l = length l.rest
