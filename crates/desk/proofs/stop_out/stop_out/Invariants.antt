use Rattle.std.proofs.Common.{length}
use Rattle.account.specs.Positions.{open_positions}
use Rattle.desk.proofs.StopOutDue.{IsStopping}
use Rattle.desk.proofs.stop_out.stop_out.Given as goal

abbrev pub invariant-loop-left : goal.invariant-loop-left
invariant-loop-left g l = IsStopping l.time_ms l.fn.books l.books (length (open_positions l.fn.books.quoted.events)) l.left

abbrev pub decreases-loop-left : goal.decreases-loop-left
decreases-loop-left g l = l.left
