use Rattle.std.proofs.Common.{length}
use Rattle.mql_preproc.proofs.Taking.{LineTaken}
use Rattle.mql_preproc.proofs.part.take_line.Given as goal

abbrev pub invariant-loop-token : goal.invariant-loop-token
invariant-loop-token l = LineTaken l.fn.rest l.tokens l.rest

abbrev pub decreases-loop-token : goal.decreases-loop-token
decreases-loop-token l = length l.rest
