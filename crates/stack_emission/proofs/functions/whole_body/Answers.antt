use Rattle.stack_emission.proofs.FunctionEmits.{body_emits}
use Rattle.stack_emission.proofs.functions.whole_body.Goals as goal

pub returns : goal.returns
returns c = body_emits _ c.args.gives c.args.body.now c.in_ok-to_return.to_return _ _ _ _ _ _ _ c.in_ok-to_return.ensures c.in_ok-put.ensures (rw c.outermost.ensures at c.in_ok-statements.ensures) c.in_ok-stuck_if.ensures c.in_ok-set_label.ensures c.put-2.ensures
