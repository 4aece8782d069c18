use Rattle.std.proofs.Common.{rules}
use Rattle.account.specs.Positions.{position_ticket}
use Rattle.account.proofs.Found.{found_hit, found_miss, found_end}
use Rattle.account.proofs.open_positions.found.Goals as goal

pub returns-then-i-positions-clause-value : goal.returns-then-i-positions-clause-value
returns-then-i-positions-clause-value c = found_end position_ticket c.args.ticket c.args.positions.now c.lower-i.result c.lower-i.ensures.value (search rules)

pub returns-then-nth-ticket-clause-value : goal.returns-then-nth-ticket-clause-value
returns-then-nth-ticket-clause-value c = found_hit position_ticket c.args.ticket c.args.positions.now c.lower-i.result c.nth.result.now c.lower-i.ensures.value c.nth.ensures (search rules)

pub returns-else-nth-ticket-clause-value : goal.returns-else-nth-ticket-clause-value
returns-else-nth-ticket-clause-value c = found_miss position_ticket c.args.ticket c.args.positions.now c.lower-i.result c.nth.result.now c.lower-i.ensures.value c.requires c.nth.ensures (search rules)
