use Rattle.std.proofs.Common.{sym}
use Rattle.mql_preproc.specs.Onward.{IsPastRun}
use Rattle.mql_preproc.proofs.Steps.{err_on}
use Rattle.mql_preproc.proofs.Resuming.{past_dropped, past_replaced, past_fault}
use Rattle.mql_preproc.proofs.onward.past_run.Goals as goal

pub returns-then-not-is_active : goal.returns-then-not-is_active
returns-then-not-is_active c = past_dropped _ _ _ _ _ c.requires c.in_ok-run.ensures.run c.in_ok-run.ensures.rest (sym c.if-not-is_active.ensures)

pub returns-in_err-state : goal.returns-in_err-state
returns-in_err-state c =
    err_on (IsPastRun c.args.progress c.args.first c.args.rest.now c.take_run.new.rest) _ _ c.from_residual-in_err-state.ensures.1
    (past_fault _ _ _ _ _ c.requires c.in_ok-run.ensures.run c.in_ok-run.ensures.rest _ (sym c.if-not-is_active.ensures) c.in_err-state.ensures)

pub returns : goal.returns
returns c = past_replaced _ _ _ _ _ c.requires c.in_ok-run.ensures.run c.in_ok-run.ensures.rest _ (sym c.if-not-is_active.ensures) c.in_ok-state.ensures
