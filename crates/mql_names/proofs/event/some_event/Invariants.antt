use Rattle.std.proofs.Common.{◌≡◌, length}
use Rattle.mql_names.specs.Events.{some_event}
use Rattle.mql_names.proofs.event.some_event.Given as goal

abbrev pub invariant-loop-rest : goal.invariant-loop-rest
invariant-loop-rest l = some_event l.rest ≡ some_event l.items

abbrev pub decreases-loop-rest : goal.decreases-loop-rest
decreases-loop-rest l = length l.rest
