use Rattle.mql_check.proofs.Loops.{unmet_on}
use Rattle.mql_check.proofs.program.unmet_from.Goals as goal

pub loop-rest-preserved : goal.loop-rest-preserved
loop-rest-preserved c =
    unmet_on _ c.loop-rest.all c.break_if-one.result c.sooner-all.result c.args.used.now c.loop-rest.n c.in_ok-n.n c.f-item.result c.loop-rest.rest.now c.is_used.result
    c.loop-rest.invariant c.in-len1-up.len_at_least c.f-item.is c.is_used.ensures c.break_if-one.ensures c.sooner-all.ensures c.in_ok-n.ensures
