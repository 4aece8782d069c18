use Rattle.std.proofs.Common.{◌≡◌, length}
use Rattle.mql_names.specs.Events.{event_name}
use Rattle.mql_check.specs.Made.{number_of_name}
use Rattle.mql_check.proofs.made.function_of.Given as goal

abbrev pub invariant-loop-rest : goal.invariant-loop-rest
invariant-loop-rest l = number_of_name (event_name l.event) l.rest ≡ number_of_name (event_name l.event) l.fn.functions

abbrev pub decreases-loop-rest : goal.decreases-loop-rest
decreases-loop-rest l = length l.rest
