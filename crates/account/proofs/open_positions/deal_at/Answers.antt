use Rattle.std.proofs.Common.{rules, ◌∙◌}
use Rattle.account.proofs.Steps.{closes_at, may_change, changes_at}
use Rattle.account.proofs.open_positions.deal_at.Goals as goal

pub returns-then-is_closed_by : goal.returns-then-is_closed_by
returns-then-is_closed_by c = record {
  items =
      c.remove-closed.ensures.items ∙ closes_at c.args.deal.now c.args.positions.now.items c.args.i c.nth.result.now c.is_closed_by.result c.requires.rising c.requires.place (search rules) c.is_closed_by.ensures c.if-is_closed_by.true;
}

pub change_at-requires-clause-may : goal.change_at-requires-clause-may
change_at-requires-clause-may c =
    may_change c.args.deal.now c.args.positions.now.items c.args.i c.nth.result.now c.is_closed_by.result c.requires.rising c.requires.place (search rules) c.is_closed_by.ensures c.if-is_closed_by.false c.requires.may

pub returns : goal.returns
returns c = record {
  items =
      changes_at c.args.deal.now c.args.positions.now.items c.change_at.new.positions.items c.args.i c.nth.result.now c.is_closed_by.result c.requires.rising c.requires.place (search rules) c.is_closed_by.ensures c.if-is_closed_by.false c.change_at.ensures;
}
