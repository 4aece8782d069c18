use Rattle.std.proofs.Common.{◌≡◌, length}
use Rattle.std.specs.List.{fold}
use Rattle.desk.specs.Effect.{later, last_time}
use Rattle.desk.proofs.quoted.QuotedLedger.last_time.Given as goal

abbrev pub invariant-loop-time : goal.invariant-loop-time
invariant-loop-time l = fold later l.last l.rest ≡ last_time l.fn.self.times

abbrev pub decreases-loop-time : goal.decreases-loop-time
decreases-loop-time l = length l.rest
