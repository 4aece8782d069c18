use Rattle.std.proofs.Common.{length}
use Rattle.mql_preproc.specs.Onward.{left_open, Further}
use Rattle.mql_preproc.proofs.onward.read_on.Given as goal

abbrev pub invariant-loop-first : goal.invariant-loop-first
invariant-loop-first l = Further l.sources l.source l.depth l.fn.left (left_open l.file l.rest l.progress)

abbrev pub decreases-loop-first : goal.decreases-loop-first
decreases-loop-first l = length l.rest
