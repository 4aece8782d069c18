use Rattle.mql_spelling.proofs.Escapes.{broken, broken_end, empty_list}
use Rattle.mql_spelling.proofs.escape.spelled_text.Goals as goal

pub returns-then-not-branch : goal.returns-then-not-branch
returns-then-not-branch c = broken c.loop-unit.text c.loop-unit.at c.escape_step-next.result.0 c.escape_step-next.result.1 _ _ _ _ c.loop-unit.invariant.0 c.in-Some.ensures.cases.0 c.escape_step-next.ensures.step (λ o. c.in_ok-add.ensures.bad o c.if-not-branch.true)

pub returns-then-not-branch-2 : goal.returns-then-not-branch-2
returns-then-not-branch-2 c = broken_end c.loop-unit.text c.loop-unit.at c.at_end.result _ _ c.loop-unit.invariant.0 (empty_list _ c.in_default.ensures.cases) c.at_end.ensures (λ o. c.in_ok-add-2.ensures.bad o c.if-not-branch-2.true)
