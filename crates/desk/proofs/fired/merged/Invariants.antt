use Rattle.std.proofs.Common.{◌≡◌, ◌++◌, length}
use Rattle.desk.specs.Effect.{merged}
use Rattle.desk.proofs.fired.merged.Given as goal

-- what is merged so far, and what is left
abbrev pub invariant-loop-ticket : goal.invariant-loop-ticket
invariant-loop-ticket l = l.all.items ++ merged l.rest l.late ≡ merged l.orders l.stops

abbrev pub decreases-loop-ticket : goal.decreases-loop-ticket
decreases-loop-ticket l = length l.rest
