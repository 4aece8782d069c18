use Rattle.store_frames.proofs.Begun.{local_done, local_fails}
use Rattle.store_frames.proofs.resets.reset.Goals as goal

pub returns-in-Err : goal.returns-in-Err
returns-in-Err c =
    local_fails c.args.classes.now c.args.end c.loop-local.local c.args.locals.now c.in-Some.t.now c.loop-local.store
    c.reset_local.new.store _ c.in-Err.fault c.loop-local-test.true c.in-Some.ensures.lookup.3.0 c.in-Some.ensures.lookup.1 c.in-Err.ensures
    c.loop-local.invariant

pub loop-local-preserved : goal.loop-local-preserved
loop-local-preserved c =
    local_done c.args.classes.now c.args.end c.loop-local.local c.args.locals.now c.in-Some.t.now c.loop-local.store
    c.reset_local.new.store _ c.loop-local-test.true c.in-Some.ensures.lookup.3.0 c.in-Some.ensures.lookup.1 c.in-Ok.ensures
    c.loop-local.invariant
