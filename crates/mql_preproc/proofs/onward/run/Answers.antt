use Rattle.mql_preproc.specs.Onward.{IsStopped}
use Rattle.mql_preproc.proofs.Limits.{few_tokens}
use Rattle.mql_preproc.proofs.Steps.{err_on}
use Rattle.mql_preproc.proofs.Advancing.{advanced_on, advanced_made, advanced_needs, advanced_err, made_now, fault_now, stands_now, stands_on}
use Rattle.mql_preproc.proofs.onward.run.Goals as goal

pub loop-next-init : goal.loop-next-init
loop-next-init c = (λ entry h. h, c.requires.fits)

pub loop-next-preserved : goal.loop-next-preserved
loop-next-preserved c =
    let a = advanced_on _ _ _ _ c.in_ok-next.ensures c.in-On.is in (λ entry h. stands_on entry _ _ _ (c.loop-next.invariant.0 entry h) a.0, a.0.fits)

pub loop-next-smaller : goal.loop-next-smaller
loop-next-smaller c = (advanced_on _ _ _ _ c.in_ok-next.ensures c.in-On.is).1

pub returns-in_err-next-clause-exact : goal.returns-in_err-next-clause-exact
returns-in_err-next-clause-exact c = λ entry h.
    err_on (IsStopped entry c.args.sources.now) _ _ c.from_residual.ensures.1 (fault_now entry _ _ _ (c.loop-next.invariant.0 entry h) (advanced_err _ _ _ c.in_err-next.ensures))

pub returns-in-Made-clause-exact : goal.returns-in-Made-clause-exact
returns-in-Made-clause-exact c = λ entry h.
    made_now entry _ _ _ _ (c.loop-next.invariant.0 entry h) (advanced_made _ _ _ _ c.in_ok-next.ensures c.in-Made.is) c.in_ok-joined-in-Made.ensures

pub returns-in-Made-clause-few : goal.returns-in-Made-clause-few
returns-in-Made-clause-few c = λ entry h.
    few_tokens (made_now entry _ _ _ _ (c.loop-next.invariant.0 entry h) (advanced_made _ _ _ _ c.in_ok-next.ensures c.in-Made.is) c.in_ok-joined-in-Made.ensures)

pub returns-in-Needs-clause-exact : goal.returns-in-Needs-clause-exact
returns-in-Needs-clause-exact c = λ entry h.
    let a = advanced_needs _ _ _ _ _ c.in_ok-next.ensures c.in-Needs.is in
    (stands_now entry _ _ _ (c.loop-next.invariant.0 entry h) a.1, stands_on entry _ _ _ (c.loop-next.invariant.0 entry h) a.0)

pub returns-in-Needs-clause-fits : goal.returns-in-Needs-clause-fits
returns-in-Needs-clause-fits c = (advanced_needs _ _ _ _ _ c.in_ok-next.ensures c.in-Needs.is).0.fits
