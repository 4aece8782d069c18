use Rattle.std.proofs.Common.{◌∙◌, subst}
use Rattle.account.specs.declared.account_spec.AccountSpec.{AccountSpec}
use Rattle.account.specs.Deals.{balance}
use Rattle.account.specs.Positions.{open_positions}
use Rattle.account.specs.Ranges.{IsAccount}
use Rattle.positions.proofs.Room.{open_now, may_fill, may_fill_at, fill_counted, counted_at}
use Rattle.positions.proofs.money.has_money.Goals as goal

pub try_fill-requires-clause-volume : goal.try_fill-requires-clause-volume
try_fill-requires-clause-volume c =
    let es = c.args.ledger.now.events in
    may_fill_at c.args.ledger.now.spec c.spec-spec.result.now c.in_ok-left.left.items (open_positions es) c.args.fill.now c.spec-spec.ensures.value (c.in_ok-left.ensures ∙ c.positions.ensures.value)
    (may_fill c.args.ledger.now.spec c.args.prices.now es c.args.fill.now c.requires.room (open_now es c.positions.ensures.rising c.positions.ensures.held c.positions.ensures.few) c.requires.fill c.requires.volume)

pub is_enough-requires-clause-countable : goal.is_enough-requires-clause-countable
is_enough-requires-clause-countable c =
    let es = c.args.ledger.now.events in
    counted_at c.args.ledger.now.spec c.spec-spec.result.now c.args.prices.now (balance es) c.in_ok-left.left.items (open_positions es) c.as_slice.result.now c.as_slice-2.result.now c.args.fill.now c.spec-spec.ensures.value (c.in_ok-left.ensures ∙ c.positions.ensures.value)
    (c.as_slice.ensures.value ∙ c.in_ok-try_fill.ensures.positions)
    (c.as_slice-2.ensures ∙ c.in_ok-try_fill.ensures.added)
    (fill_counted c.args.ledger.now.spec c.args.prices.now es c.args.fill.now c.spec-spec.ensures.ranges c.ranges-2.ensures c.requires.room (open_now es c.positions.ensures.rising c.positions.ensures.held c.positions.ensures.few) c.positions.ensures.few c.requires.fill c.requires.volume c.number_ranges.ensures.volume c.number_ranges.ensures.price c.requires.priced)
