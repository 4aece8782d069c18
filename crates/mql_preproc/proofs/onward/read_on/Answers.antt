use Rattle.std.proofs.Common.{◌≡◌, sym, subst, ◌∙◌, Ok, Err}
use Rattle.mql_preproc.specs.declared.fault.PreFault.TheVariants.{Need}
use Rattle.mql_preproc.specs.Reading.{Goes, Includes}
use Rattle.mql_preproc.specs.Onward.{Ends, Further, Entering, LeftLeads, IsPaused}
use Rattle.mql_preproc.proofs.Steps.{err_on}
use Rattle.mql_preproc.proofs.Resuming.{popped, lent, did_goes, did_include, did_need, further_self, further_run, run_fault, further_goes, at_include, at_need, at_fault, at_end, at_open_end}
use Rattle.mql_preproc.proofs.onward.read_on.Goals as goal

pub loop-first-init : goal.loop-first-init
loop-first-init c = further_self c.args.sources.now c.args.source.now c.args.depth c.args.left

pub loop-first-preserved-then-not-is_hash : goal.loop-first-preserved-then-not-is_hash
loop-first-preserved-then-not-is_hash c = further_run c.args.sources.now c.args.source.now c.args.depth c.args.left c.args.left.inner.file c.loop-first.progress c.in-Some.first c.pop.new.self (popped _ _ _ _ _ _ _ _ _ c.loop-first.invariant c.in-Some.ensures) c.past_run.new.rest _ c.in_ok-progress.ensures

pub returns-in_err-progress : goal.returns-in_err-progress
unfolding IsPaused
returns-in_err-progress c =
    err_on (IsPaused c.args.sources.now c.args.source.now c.args.depth c.args.left) _ _ c.from_residual.ensures.1
    (run_fault c.args.sources.now c.args.source.now c.args.depth c.args.left c.args.left.inner.file c.loop-first.progress c.in-Some.first c.pop.new.self (popped _ _ _ _ _ _ _ _ _ c.loop-first.invariant c.in-Some.ensures) c.past_run.new.rest _ c.in_err-progress.ensures)

pub loop-first-preserved-in-Goes : goal.loop-first-preserved-in-Goes
loop-first-preserved-in-Goes c =
    further_goes c.args.sources.now c.args.source.now c.args.depth c.args.left c.args.left.inner.file c.loop-first.progress c.in-Some.first c.pop.new.self (popped _ _ _ _ _ _ _ _ _ c.loop-first.invariant c.in-Some.ensures) c.take_line.new.rest c.in_ok-line.line (sym c.if-not-is_hash.ensures) c.in_ok-line.ensures _
    (lent c.args.sources.now c.args.source.now c.args.depth c.in-Some.first.1 _ _ c.loop-first.progress (λ x. x ≡ Ok (Goes c.in-Goes.next)) c.as_slice.ensures (did_goes _ _ _ _ c.in_ok-next.ensures.exact c.in-Goes.is))

pub loop-first-preserved : goal.loop-first-preserved
loop-first-preserved c =
    further_goes c.args.sources.now c.args.source.now c.args.depth c.args.left c.args.left.inner.file c.loop-first.progress c.in-Some.first c.pop.new.self (popped _ _ _ _ _ _ _ _ _ c.loop-first.invariant c.in-Some.ensures) c.take_line.new.rest c.in_ok-line.line (sym c.if-not-is_hash.ensures) c.in_ok-line.ensures _
    (lent c.args.sources.now c.args.source.now c.args.depth c.in-Some.first.1 _ _ c.loop-first.progress (λ x. x ≡ Ok (Goes c.in-Goes.next)) c.as_slice.ensures (did_goes _ _ _ _ c.in_ok-next.ensures.exact c.in-Goes.is))

pub returns-in_err-next : goal.returns-in_err-next
unfolding IsPaused
returns-in_err-next c =
    err_on (IsPaused c.args.sources.now c.args.source.now c.args.depth c.args.left) _ _ c.from_residual-in_err-next.ensures.1
    (at_fault c.args.sources.now c.args.source.now c.args.depth c.args.left c.args.left.inner.file c.loop-first.progress c.in-Some.first c.pop.new.self (popped _ _ _ _ _ _ _ _ _ c.loop-first.invariant c.in-Some.ensures) c.take_line.new.rest c.in_ok-line.line (sym c.if-not-is_hash.ensures) c.in_ok-line.ensures _
    (lent c.args.sources.now c.args.source.now c.args.depth c.in-Some.first.1 _ _ c.loop-first.progress (λ x. Ends c.in_err-next.field-0.0 (x ≡ Err c.in_err-next.field-0.0)) c.as_slice.ensures c.in_err-next.ensures.exact))

pub returns-in-Includes : goal.returns-in-Includes
unfolding IsPaused
returns-in-Includes c =
    let d = did_include c.loop-first.progress c.in-Includes.next c.in-Includes.place _ _ _ _ c.in_ok-next.ensures.exact c.in_ok-next.ensures.within c.in-Includes.is in
    subst (λ m. Entering c.args.sources.now c.args.source.now c.args.depth c.args.left m c.in-Includes.place) (sym c.left_open.ensures)
    (at_include c.args.sources.now c.args.source.now c.args.depth c.args.left c.args.left.inner.file c.loop-first.progress c.in-Some.first c.pop.new.self (popped _ _ _ _ _ _ _ _ _ c.loop-first.invariant c.in-Some.ensures) c.take_line.new.rest c.in_ok-line.line (sym c.if-not-is_hash.ensures) c.in_ok-line.ensures _ _
    (lent c.args.sources.now c.args.source.now c.args.depth c.in-Some.first.1 _ _ c.loop-first.progress (λ x. x ≡ Ok (Includes c.in-Includes.next c.in-Includes.place)) c.as_slice.ensures d.0) (d.1, d.2, d.3))

pub returns-in-Needs : goal.returns-in-Needs
unfolding IsPaused
returns-in-Needs c =
    let d = did_need c.loop-first.progress c.in-Needs.next c.in-Needs.name _ _ c.in_ok-next.ensures.exact c.in-Needs.is in
    subst (λ m. Further c.args.sources.now c.args.source.now c.args.depth c.args.left m × LeftLeads c.args.sources.now c.args.source.now c.args.depth c.args.left (Err (Need c.in-Needs.name))) (sym c.left_open-in-Needs.ensures)
    (at_need c.args.sources.now c.args.source.now c.args.depth c.args.left c.args.left.inner.file c.loop-first.progress c.in-Some.first c.pop.new.self (popped _ _ _ _ _ _ _ _ _ c.loop-first.invariant c.in-Some.ensures) c.take_line.new.rest c.in_ok-line.line (sym c.if-not-is_hash.ensures) c.in_ok-line.ensures c.in-Needs.next c.in-Needs.name _
    (lent c.args.sources.now c.args.source.now c.args.depth c.in-Some.first.1 _ _ c.loop-first.progress (λ x. x ≡ Err (Need c.in-Needs.name)) c.as_slice.ensures d.0, d.1) c.in_ok-rest-in-Needs.ensures)

pub returns : goal.returns
unfolding IsPaused
returns c = at_end _ _ _ _ _ _ _ _ c.loop-first.invariant c.in_default.ensures.0 (sym c.in_ok-end_of.was ∙ c.end_of.ensures)

pub returns-in_err-end_of : goal.returns-in_err-end_of
unfolding IsPaused
returns-in_err-end_of c =
    err_on (IsPaused c.args.sources.now c.args.source.now c.args.depth c.args.left) _ _ c.from_residual-in_err-end_of.ensures.1
    (at_open_end _ _ _ _ _ _ _ _ c.loop-first.invariant c.in_default.ensures.0 (sym c.in_err-end_of.was ∙ c.end_of.ensures))
