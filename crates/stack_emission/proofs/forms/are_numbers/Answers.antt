use Rattle.std.proofs.Common.{sym, ◌∙◌}
use Rattle.stack_emission.proofs.Tests.{number_next, numbers_end}
use Rattle.stack_emission.proofs.forms.are_numbers.Goals as goal

pub loop-value-preserved : goal.loop-value-preserved
loop-value-preserved c = c.loop-value.invariant ∙ number_next c.args.values.now c.loop-value.value-index c.value-item.result _ _ c.loop-value-test.true c.value-item.is (sym c.if-not-is_number.false ∙ c.is_number.ensures)

pub returns-then-not-is_number : goal.returns-then-not-is_number
returns-then-not-is_number c = sym (c.loop-value.invariant ∙ number_next c.args.values.now c.loop-value.value-index c.value-item.result _ _ c.loop-value-test.true c.value-item.is (sym c.if-not-is_number.true ∙ c.is_number.ensures))

pub returns : goal.returns
returns c = sym (c.loop-value.invariant ∙ numbers_end c.args.values.now c.loop-value.value-index c.loop-value-test.false)
