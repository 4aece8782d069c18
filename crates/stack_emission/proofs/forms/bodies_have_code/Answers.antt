use Rattle.std.proofs.Common.{sym, ◌∙◌}
use Rattle.stack_emission.proofs.Tests.{body_next, bodies_end}
use Rattle.stack_emission.proofs.forms.bodies_have_code.Goals as goal

pub loop-f-preserved : goal.loop-f-preserved
loop-f-preserved c = c.loop-f.invariant ∙ body_next c.args.functions.now c.args.some.now c.loop-f.f-index c.f-item.result _ _ c.loop-f-test.true c.f-item.is (sym c.if-not-body_has_code.false ∙ (rw c.as_slice.ensures at c.body_has_code.ensures))

pub returns-then-not-body_has_code : goal.returns-then-not-body_has_code
returns-then-not-body_has_code c = sym (c.loop-f.invariant ∙ body_next c.args.functions.now c.args.some.now c.loop-f.f-index c.f-item.result _ _ c.loop-f-test.true c.f-item.is (sym c.if-not-body_has_code.true ∙ (rw c.as_slice.ensures at c.body_has_code.ensures)))

pub returns : goal.returns
returns c = sym (c.loop-f.invariant ∙ bodies_end c.args.functions.now c.args.some.now c.loop-f.f-index c.loop-f-test.false)
