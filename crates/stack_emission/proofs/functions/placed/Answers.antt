use Rattle.stack_emission.proofs.FunctionEmits.{placed_step}
use Rattle.stack_emission.proofs.functions.placed.Goals as goal

pub loop-label-preserved : goal.loop-label-preserved
loop-label-preserved c = placed_step _ _ _ _ _ _ c.loop-label-test.true c.loop-label.invariant c.placed_at.ensures c.in_ok-push.ensures.ok
