use Rattle.mql_preproc.proofs.Steps.{on_replaced, on_expand_fault}
use Rattle.mql_preproc.proofs.onward.replaced.Goals as goal

pub returns-in_ok-append-in-Ok : goal.returns-in_ok-append-in-Ok
returns-in_ok-append-in-Ok c = on_replaced _ _ _ _ _ c.in-Ok.ensures.exact c.saturating_sub-room.ensures c.len.ensures c.in_ok-append-in-Ok.ensures.ok

pub returns-in-Err : goal.returns-in-Err
returns-in-Err c = on_expand_fault _ _ _ _ _ _ c.in-Err.ensures.exact c.saturating_sub-room.ensures c.len.ensures c.expand_fault.ensures
