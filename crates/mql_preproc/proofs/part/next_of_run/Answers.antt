use Rattle.std.proofs.Common.{refl}
use Rattle.mql_preproc.proofs.Taking.{none_left, directive_next}
use Rattle.mql_preproc.proofs.part.next_of_run.Goals as goal

pub returns-in-None : goal.returns-in-None
returns-in-None c = (refl, none_left _ _ c.in-None.ensures)

pub returns-then-begins_directive : goal.returns-then-begins_directive
returns-then-begins_directive c = (refl, directive_next _ _ _ c.in-Some.ensures c.if-begins_directive.ensures)
