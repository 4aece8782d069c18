use Rattle.std.proofs.Common.{◌≡◌, false, length}
use Rattle.mql_names.specs.Rules.{lacks_after}
use Rattle.mql_names.proofs.rules.lacks_default.Given as goal

abbrev pub invariant-loop-rest : goal.invariant-loop-rest
invariant-loop-rest l = lacks_after l.had l.rest ≡ lacks_after false l.params

abbrev pub decreases-loop-rest : goal.decreases-loop-rest
decreases-loop-rest l = length l.rest
