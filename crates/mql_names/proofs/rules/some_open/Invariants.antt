use Rattle.std.proofs.Common.{◌≡◌, length}
use Rattle.mql_names.specs.Rules.{some_open}
use Rattle.mql_names.proofs.rules.some_open.Given as goal

abbrev pub invariant-loop-rest : goal.invariant-loop-rest
invariant-loop-rest l = some_open l.rest ≡ some_open l.dimensions

abbrev pub decreases-loop-rest : goal.decreases-loop-rest
decreases-loop-rest l = length l.rest
