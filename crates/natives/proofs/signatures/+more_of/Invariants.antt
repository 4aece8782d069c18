use Rattle.std.proofs.Common.{length}
use Rattle.natives.proofs.signatures.+more_of.Given as goal

abbrev pub decreases-more_of : goal.decreases-more_of
decreases-more_of l = length l.parameters.now
