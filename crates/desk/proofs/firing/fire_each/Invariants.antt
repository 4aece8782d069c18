use Rattle.std.proofs.Common.{length}
use Rattle.desk.specs.Effect.{triggered_by}
use Rattle.desk.proofs.FiringRuns.{IsUnderWay}
use Rattle.desk.proofs.firing.fire_each.Given as goal

abbrev pub invariant-loop-trigger : goal.invariant-loop-trigger
invariant-loop-trigger g l = IsUnderWay (λ spec prices. triggered_by spec prices l.time_ms) l.fn.books l.books l.triggers l.rest

abbrev pub decreases-loop-trigger : goal.decreases-loop-trigger
decreases-loop-trigger g l = length l.rest
