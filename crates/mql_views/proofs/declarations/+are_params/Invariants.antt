use Rattle.std.proofs.Common.{length}
use Rattle.mql_views.proofs.declarations.+are_params.Given as goal

abbrev pub decreases-are_params : goal.decreases-are_params
decreases-are_params l = length l.most.now
