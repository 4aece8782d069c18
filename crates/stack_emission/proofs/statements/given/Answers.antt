use Rattle.std.proofs.Common.{arith}
use Rattle.stack_emission.proofs.Rows.{is_empty, begins}
use Rattle.stack_emission.proofs.StatementEmits.{none_given, one_given}
use Rattle.stack_emission.proofs.statements.given.Goals as goal

pub returns-in-empty : goal.returns-in-empty
returns-in-empty c = none_given _ c.args.gives c.args.values.now _ _ (is_empty c.args.values.now (omega arith)) c.stuck_if.ensures

pub returns-in_ok-stuck_if-in-len1-up : goal.returns-in_ok-stuck_if-in-len1-up
returns-in_ok-stuck_if-in-len1-up c = one_given _ c.args.gives c.args.values.now _ c.e-item.result _ _ _ (begins c.args.values.now c.e-item.result _ (omega arith) c.e-item.is) c.in_ok-stuck_if-in-len1-up.ensures c.operand.ensures
