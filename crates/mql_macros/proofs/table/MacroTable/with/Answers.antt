use Rattle.mql_macros.proofs.Placing.{one_placed}
use Rattle.mql_macros.proofs.table.MacroTable.with.Goals as goal

pub invariant_of-result : goal.invariant_of-result
invariant_of-result c = one_placed _ _ _ _ c.into_vec-name.result _ _ c.args.m c.self.invariant c.in_ok-insert.ensures.updates c.into_vec-name.ensures c.in_ok-copy_text.ensures c.len.ensures c.in_ok-push.ensures.ok
