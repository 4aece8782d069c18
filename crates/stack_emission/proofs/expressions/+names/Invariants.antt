use Rattle.std.specs.Prelude.{length}
use Rattle.stack_emission.proofs.expressions.+names.Given as goal

abbrev pub decreases-names : goal.decreases-names
decreases-names l = length l.labels.now
