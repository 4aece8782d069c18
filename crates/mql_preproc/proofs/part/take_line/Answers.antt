use Rattle.std.proofs.Common.{sym}
use Rattle.mql_preproc.proofs.Taking.{line_on}
use Rattle.mql_preproc.proofs.part.take_line.Goals as goal

pub loop-token-preserved : goal.loop-token-preserved
loop-token-preserved c = line_on _ _ _ _ _ _ c.loop-token.invariant c.in-Some.ensures (sym c.if-is_line_end.ensures) c.in_ok-push.ensures.ok
