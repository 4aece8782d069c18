use Rattle.mql_check.proofs.Loops.{told_on}
use Rattle.mql_check.proofs.program.told.Goals as goal

pub loop-rest-preserved : goal.loop-rest-preserved
loop-rest-preserved c =
    told_on _ c.loop-rest.first c.sooner-first.result _ c.loop-rest.rest.now c.loop-rest.invariant c.in-len1-up.len_at_least c.sooner-first.ensures
