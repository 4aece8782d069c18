use Rattle.positions.proofs.Sums.{event_goes_on, call_goes_on}
use Rattle.positions.proofs.laws.positions_go_on.Goals as goal

pub returns : goal.returns
returns c = record { by_event = event_goes_on; by_call = call_goes_on }
