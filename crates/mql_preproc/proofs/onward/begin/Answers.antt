use Rattle.std.proofs.Common.{◌∙◌}
use Rattle.mql_preproc.proofs.Needs.{on_absent, placed}
use Rattle.mql_preproc.proofs.Advancing.{begin_stands, begin_fits, begin_told}
use Rattle.mql_preproc.proofs.onward.begin.Goals as goal

pub returns-in_default-clause-told : goal.returns-in_default-clause-told
returns-in_default-clause-told c = on_absent _ _ _ _ c.as_slice.ensures c.in_default.ensures.place (c.in_ok-from_slice.ensures ∙ c.as_slice-in_default.ensures)

pub returns-clause-stands : goal.returns-clause-stands
returns-clause-stands c = begin_stands _ _ _ _ _ _ (placed _ _ _ _ c.as_slice.ensures c.in-Some.ensures.place) c.opened.ensures c.in_ok-begun.ensures c.new.ensures

pub returns-clause-fits : goal.returns-clause-fits
returns-clause-fits c = begin_fits _ _ _ _ _ c.in-Some.ensures.within c.opened.ensures c.in_ok-begun.ensures c.new.ensures

pub returns-clause-told : goal.returns-clause-told
returns-clause-told c = begin_told _ _ _ _ _ _ (placed _ _ _ _ c.as_slice.ensures c.in-Some.ensures.place) c.opened.ensures c.in_ok-begun.ensures c.new.ensures
