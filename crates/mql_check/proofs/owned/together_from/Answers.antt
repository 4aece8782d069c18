use Rattle.mql_check.proofs.Loops.{together_on}
use Rattle.mql_check.proofs.owned.together_from.Goals as goal

pub loop-rest-preserved : goal.loop-rest-preserved
loop-rest-preserved c =
    together_on _ c.loop-rest.g c.in_ok-g.g c.o-item.result c.loop-rest.rest.now c.loop-rest.invariant c.in-len1-up.len_at_least c.o-item.is c.in_ok-g.ensures
