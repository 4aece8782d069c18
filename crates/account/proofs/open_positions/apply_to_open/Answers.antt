use Rattle.account.proofs.Steps.{rising_dealt}
use Rattle.account.proofs.open_positions.apply_to_open.Goals as goal

pub returns-in-Some-clause-rising : goal.returns-in-Some-clause-rising
returns-in-Some-clause-rising c = rising_dealt c.args.deal.now c.args.positions.now.items c.deal_at.new.positions.items c.requires.rising c.deal_at.ensures.items
