use Rattle.mql_preproc.specs.Onward.{IsOpened}
use Rattle.mql_preproc.proofs.Steps.{source_at}
use Rattle.mql_preproc.proofs.Resuming.{opens_by, on_lex_fault}
use Rattle.mql_preproc.proofs.onward.opened.Goals as goal

pub returns-in-Err : goal.returns-in-Err
unfolding IsOpened
returns-in-Err c = on_lex_fault _ _ _ _ _ _ (source_at _ _ _ _ c.as_slice.ensures c.requires.place c.index-as_slice-file.is) c.in-Err.ensures c.lex_fault.ensures

pub returns : goal.returns
unfolding IsOpened
returns c =
    opens_by _ _ _ _ _ _ _ _ _ _ (source_at _ _ _ _ c.as_slice.ensures c.requires.place c.index-as_slice-file.is) c.in-Ok.ensures c.in_ok-state.ensures c.of_list.ensures c.in_ok-push.ensures
