use Rattle.std.proofs.Common.{◌∷◌, length, take, drop}
use Rattle.mql_preproc.specs.Parts.{run_len}
use Rattle.mql_preproc.proofs.Taking.{RunTaken}
use Rattle.mql_preproc.proofs.part.take_run.Given as goal

abbrev pub invariant-loop-token : goal.invariant-loop-token
invariant-loop-token l =
    RunTaken l.line_before l.rest l.run (l.fn.first ∷ take (run_len l.fn.first.1.line l.fn.rest) l.fn.rest) (drop (run_len l.fn.first.1.line l.fn.rest) l.fn.rest)

abbrev pub decreases-loop-token : goal.decreases-loop-token
decreases-loop-token l = length l.rest
