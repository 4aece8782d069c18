use Rattle.std.proofs.Common.{sym, ◌∙◌}
use Rattle.stack_emission.proofs.Tests.{if_test, loop_test, switch_test, block_test, statement_next, statements_end}
use Rattle.stack_emission.proofs.forms.+statements.Goals as goal

pub body_has_code-loop-s-preserved : goal.body_has_code-loop-s-preserved
body_has_code-loop-s-preserved t c = c.loop-s.invariant ∙ statement_next c.args.functions.now c.args.body.now c.loop-s.s-index c.s-item.result _ _ c.loop-s-test.true c.s-item.is (sym c.if-not-statement_has_code.false ∙ c.statement_has_code.ensures)

pub body_has_code-returns-then-not-statement_has_code : goal.body_has_code-returns-then-not-statement_has_code
body_has_code-returns-then-not-statement_has_code t c = sym (c.loop-s.invariant ∙ statement_next c.args.functions.now c.args.body.now c.loop-s.s-index c.s-item.result _ _ c.loop-s-test.true c.s-item.is (sym c.if-not-statement_has_code.true ∙ c.statement_has_code.ensures))

pub body_has_code-returns : goal.body_has_code-returns
body_has_code-returns t c = sym (c.loop-s.invariant ∙ statements_end c.args.functions.now c.args.body.now c.loop-s.s-index c.loop-s-test.false)

pub statement_has_code-returns-in-If : goal.statement_has_code-returns-in-If
statement_has_code-returns-in-If t c = if_test _ _ _ _ c.in-If.e c.in-If.held c.in-If.failed _ _ _ _ _ _ c.in-If.is c.as_slice-in-If.ensures c.as_slice-in-If-2.ensures c.expression_has_code-in-If.ensures c.body_has_code.ensures c.body_has_code-in-If.ensures c.both.ensures c.both-in-If.ensures

pub statement_has_code-returns-in-Loop : goal.statement_has_code-returns-in-Loop
statement_has_code-returns-in-Loop t c = loop_test _ _ _ _ _ c.in-Loop.e c.in-Loop.step _ c.in-Loop.body _ _ _ _ _ c.in-Loop.is c.as_slice-in-Loop.ensures c.as_slice-in-Loop-2.ensures c.expression_has_code-in-Loop.ensures c.have_code.ensures c.body_has_code-in-Loop.ensures c.both-in-Loop.ensures c.both-in-Loop-2.ensures

pub statement_has_code-returns-in-Switch : goal.statement_has_code-returns-in-Switch
statement_has_code-returns-in-Switch t c = switch_test _ _ _ _ c.in-Switch.e c.in-Switch.labels _ _ _ c.in-Switch.body _ _ _ _ _ c.in-Switch.is c.as_slice-in-Switch.ensures c.as_slice-in-Switch-2.ensures c.expression_has_code-in-Switch.ensures c.are_numbers.ensures c.body_has_code-in-Switch.ensures c.both-in-Switch.ensures c.both-in-Switch-2.ensures

pub statement_has_code-returns-in-Block : goal.statement_has_code-returns-in-Block
statement_has_code-returns-in-Block t c = block_test _ _ _ _ c.in-Block.body _ c.in-Block.cleanups _ _ _ c.in-Block.is c.as_slice-in-Block.ensures c.as_slice-in-Block-2.ensures c.body_has_code-in-Block.ensures c.no_cleanup.ensures c.both-in-Block.ensures
