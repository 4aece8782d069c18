use Rattle.std.proofs.Common.{rules}
use Rattle.std.specs.Option.{option_copied}
use Rattle.positions.specs.Acts.{change_events}
use Rattle.positions.proofs.Filled.{stops_left}
use Rattle.positions.proofs.acts.stops_after.Goals as goal

pub returns-else-is_closed_by : goal.returns-else-is_closed_by
returns-else-is_closed_by c =
    stops_left c.args.fill.now c.args.deal.now (option_copied c.args.on) c.in-Some.position.now c.levels_of-levels.result c.is_closed_by.result (change_events c.change_to-else-is_closed_by.result)
    (search rules) c.levels_of-levels.ensures c.is_closed_by.ensures c.if-is_closed_by.false c.change_to-else-is_closed_by.ensures
