use Rattle.std.proofs.Common.{◌<◌, ◌∷◌, Err}
use Rattle.mql_preproc.specs.declared.fault.PreFault.TheVariants.{Need}
use Rattle.mql_preproc.specs.Onward.{Ends, still_open, Comes, Advances, IsAdvanced}
use Rattle.mql_preproc.proofs.Steps.{source_at, err_on}
use Rattle.mql_preproc.proofs.Advancing.{as_popped, with_pushed, fits_popped, among_first, paused_ends, paused_includes, paused_needs, paused_err, opened_ok, opened_err, closed, needs, fault_in, opened_in, not_opened, all_come}
use Rattle.mql_preproc.proofs.onward.advance.Goals as goal

pub returns-in_default : goal.returns-in_default
unfolding IsAdvanced
returns-in_default c = all_come c.args.sources.now c.args.reading.state c.args.reading.files c.in_default.ensures.0

pub returns-in-Ends : goal.returns-in-Ends
unfolding IsAdvanced
returns-in-Ends c =
    let f = fits_popped _ _ _ _ c.in-Some.ensures c.requires.fits in
    as_popped (λ x. Advances c.args.sources.now x (record { state = c.in-Ends.state; files = c.pop.new.self }) × (still_open (record { state = c.in-Ends.state; files = c.pop.new.self }) < still_open x)) _ _ _ c.in-Some.ensures
    (closed _ _ _ _ _ (source_at _ _ _ _ c.as_slice.ensures (among_first _ _ _ _ f) c.index-as_slice-inner.is) f _ (paused_ends _ _ _ _ _ c.len.ensures _ _ c.in_ok-state.ensures c.in-Ends.is))

pub returns-in_err-state : goal.returns-in_err-state
unfolding IsAdvanced
returns-in_err-state c =
    let f = fits_popped _ _ _ _ c.in-Some.ensures c.requires.fits in
    err_on (IsAdvanced c.args.sources.now c.args.reading) _ _ c.from_residual.ensures.1
    (as_popped (λ x. Ends c.in_err-state.field-0.0 (Comes c.args.sources.now x (Err c.in_err-state.field-0.0))) _ _ _ c.in-Some.ensures
    (fault_in _ _ _ _ _ (source_at _ _ _ _ c.as_slice.ensures (among_first _ _ _ _ f) c.index-as_slice-inner.is) f _ (paused_err _ _ _ _ _ c.len.ensures _ c.in_err-state.ensures)))

pub opened-requires-clause-place : goal.opened-requires-clause-place
opened-requires-clause-place c = (paused_includes _ _ _ _ _ c.len.ensures _ _ _ c.in_ok-state.ensures c.in-Includes.is).within

pub returns-in_err-opened-in-Includes : goal.returns-in_err-opened-in-Includes
unfolding IsAdvanced
returns-in_err-opened-in-Includes c =
    let f = fits_popped _ _ _ _ c.in-Some.ensures c.requires.fits in
    err_on (IsAdvanced c.args.sources.now c.args.reading) _ _ c.from_residual-in_err-opened-in-Includes.ensures.1
    (as_popped (λ x. Ends c.in_err-opened-in-Includes.field-0.0 (Comes c.args.sources.now x (Err c.in_err-opened-in-Includes.field-0.0))) _ _ _ c.in-Some.ensures
    (not_opened _ _ _ _ _ (source_at _ _ _ _ c.as_slice.ensures (among_first _ _ _ _ f) c.index-as_slice-inner.is) f _ _ (paused_includes _ _ _ _ _ c.len.ensures _ _ _ c.in_ok-state.ensures c.in-Includes.is) _ (opened_err _ _ _ _ _ c.in_err-opened-in-Includes.ensures)))

pub returns-in_ok-opened-in-Includes : goal.returns-in_ok-opened-in-Includes
unfolding IsAdvanced
returns-in_ok-opened-in-Includes c =
    let f = fits_popped _ _ _ _ c.in-Some.ensures c.requires.fits in
    as_popped (λ x. Advances c.args.sources.now x (c.in_ok-opened-in-Includes.field-0) × (still_open (c.in_ok-opened-in-Includes.field-0) < still_open x)) _ _ _ c.in-Some.ensures
    (opened_in _ _ _ _ _ (source_at _ _ _ _ c.as_slice.ensures (among_first _ _ _ _ f) c.index-as_slice-inner.is) f _ _ (paused_includes _ _ _ _ _ c.len.ensures _ _ _ c.in_ok-state.ensures c.in-Includes.is) _ (opened_ok _ _ _ _ _ _ _ c.in_ok-opened-in-Includes.ensures c.in_ok-push-in-Includes.ensures))

pub returns-in_ok-push-in-Needs : goal.returns-in_ok-push-in-Needs
unfolding IsAdvanced
returns-in_ok-push-in-Needs c =
    let f = fits_popped _ _ _ _ c.in-Some.ensures c.requires.fits in
    as_popped (λ x. Advances c.args.sources.now x (record { state = c.in-Needs.left.state; files = c.push-in-Needs.new.self }) × Comes c.args.sources.now x (Err (Need c.in-Needs.name))) _ _ _ c.in-Some.ensures
    (with_pushed (λ x. Advances c.args.sources.now (record { state = c.args.reading.state; files = c.in-Some.inner ∷ c.pop.new.self }) x × Comes c.args.sources.now (record { state = c.args.reading.state; files = c.in-Some.inner ∷ c.pop.new.self }) (Err (Need c.in-Needs.name))) _ _ _ _ c.in_ok-push-in-Needs.ensures
    (needs _ _ _ _ _ (source_at _ _ _ _ c.as_slice.ensures (among_first _ _ _ _ f) c.index-as_slice-inner.is) f _ _ (paused_needs _ _ _ _ _ c.len.ensures _ _ _ c.in_ok-state.ensures c.in-Needs.is)))
