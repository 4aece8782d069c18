use Rattle.std.proofs.Common.{◌≡◌, length}
use Rattle.mql_spelling.specs.Spelled.{spelled_among}
use Rattle.mql_names.specs.Events.{event_name}
use Rattle.mql_names.proofs.event.event_among.Given as goal

abbrev pub invariant-loop-rest : goal.invariant-loop-rest
invariant-loop-rest l =
    spelled_among event_name l.rest l.name ≡ spelled_among event_name l.fn.events l.fn.name

abbrev pub decreases-loop-rest : goal.decreases-loop-rest
decreases-loop-rest l = length l.rest
