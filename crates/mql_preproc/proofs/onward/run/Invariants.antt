use Rattle.std.proofs.Common.{ℕ, List}
use Rattle.mql_preproc.specs.Resume.{Stands}
use Rattle.mql_preproc.specs.Onward.{Fits, still_open}
use Rattle.mql_preproc.proofs.onward.run.Given as goal

abbrev pub invariant-loop-next : goal.invariant-loop-next
invariant-loop-next l = ((entry : List ℕ) → Stands entry l.sources l.fn.reading → Stands entry l.sources l.reading) × Fits l.sources l.reading

abbrev pub decreases-loop-next : goal.decreases-loop-next
decreases-loop-next l = still_open l.reading
