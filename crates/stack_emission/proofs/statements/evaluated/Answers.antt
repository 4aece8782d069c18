use Rattle.stack_emission.proofs.StatementEmits.{evaluated_emits}
use Rattle.stack_emission.proofs.statements.evaluated.Goals as goal

pub returns : goal.returns
returns c = evaluated_emits _ c.args.line c.args.e.now _ _ _ _ c.in_ok-line_at.ensures c.in_ok-expression.ensures (rw c.is_void.ensures at c.let_go.ensures)
