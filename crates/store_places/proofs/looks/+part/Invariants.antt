use Rattle.std.proofs.Common.{length}
use Rattle.store_places.proofs.looks.+part.Given as goal

abbrev pub decreases-part : goal.decreases-part
decreases-part l = length l.path.now
