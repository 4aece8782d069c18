use Rattle.std.specs.Prelude.{length}
use Rattle.stack_emission.proofs.switches.+tests.Given as goal

abbrev pub decreases-tests : goal.decreases-tests
decreases-tests l = length l.labels.now
