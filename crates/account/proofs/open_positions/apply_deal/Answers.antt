use Rattle.account.proofs.Steps.{rising_dealt, rising_opened}
use Rattle.account.proofs.open_positions.apply_deal.Goals as goal

pub returns-in-Some-clause-rising : goal.returns-in-Some-clause-rising
returns-in-Some-clause-rising c = rising_dealt c.args.deal c.args.positions.now.items c.deal_at.new.positions.items c.requires.rising c.deal_at.ensures.items

pub returns-in-None-clause-rising : goal.returns-in-None-clause-rising
returns-in-None-clause-rising c = rising_opened c.args.deal c.args.positions.now.items c.add.new.positions.items c.requires.rising c.add.ensures
