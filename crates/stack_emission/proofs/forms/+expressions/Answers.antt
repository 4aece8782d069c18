use Rattle.std.proofs.Common.{sym, ◌∙◌}
use Rattle.stack_emission.proofs.Tests.{call_test, after_test, named_test, expression_next, expressions_end}
use Rattle.stack_emission.proofs.forms.+expressions.Goals as goal

pub have_code-loop-e-preserved : goal.have_code-loop-e-preserved
have_code-loop-e-preserved t c = c.loop-e.invariant ∙ expression_next c.args.functions.now c.args.expressions.now c.loop-e.e-index c.e-item.result _ _ c.loop-e-test.true c.e-item.is (sym c.if-not-expression_has_code.false ∙ c.expression_has_code.ensures)

pub have_code-returns-then-not-expression_has_code : goal.have_code-returns-then-not-expression_has_code
have_code-returns-then-not-expression_has_code t c = sym (c.loop-e.invariant ∙ expression_next c.args.functions.now c.args.expressions.now c.loop-e.e-index c.e-item.result _ _ c.loop-e-test.true c.e-item.is (sym c.if-not-expression_has_code.true ∙ c.expression_has_code.ensures))

pub have_code-returns : goal.have_code-returns
have_code-returns t c = sym (c.loop-e.invariant ∙ expressions_end c.args.functions.now c.args.expressions.now c.loop-e.e-index c.loop-e-test.false)

pub expression_has_code-returns-in-Call : goal.expression_has_code-returns-in-Call
expression_has_code-returns-in-Call t c = call_test _ _ _ c.in-Call.callee c.in-Call.gives c.in-Call.parts _ _ _ _ c.in-Call.is c.as_slice-in-Call.ensures c.len.ensures c.have_code-in-Call.ensures c.callee_has_code.ensures c.both.ensures

pub expression_has_code-returns-in-After : goal.expression_has_code-returns-in-After
expression_has_code-returns-in-After t c = after_test _ _ _ c.in-After.before c.in-After.last _ _ _ _ c.in-After.is c.as_slice-in-After.ensures c.as_slice-in-After-2.ensures c.have_code-in-After.ensures c.have_code-in-After-2.ensures c.both-in-After.ensures

pub expression_has_code-returns-in-Named : goal.expression_has_code-returns-in-Named
expression_has_code-returns-in-Named t c = named_test _ _ _ c.in-Named.texts _ c.in-Named.labels _ _ c.in-Named.parts _ _ _ c.in-Named.is c.as_slice-in-Named.ensures c.as_slice-in-Named-2.ensures c.as_slice-in-Named-3.ensures c.have_code-in-Named.ensures c.are_named.ensures c.both-in-Named.ensures
