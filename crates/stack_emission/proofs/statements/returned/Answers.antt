use Rattle.stack_emission.proofs.StatementEmits.{returned_emits}
use Rattle.stack_emission.proofs.statements.returned.Goals as goal

pub returns : goal.returns
returns c = returned_emits _ c.args.gives c.args.line c.args.values.now c.args.to _ _ _ _ c.in_ok-line_at.ensures c.in_ok-given.ensures c.jump.ensures
