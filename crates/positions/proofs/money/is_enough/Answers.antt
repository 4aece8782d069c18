use Rattle.std.proofs.Common.{◌≡◌, ◌∙◌, refl, ap, int_lt, ◌+ℤ◌, ℤ}
use Rattle.account.specs.declared.account_spec.AccountSpec.{AccountSpec}
use Rattle.account.specs.Deals.{total, balance}
use Rattle.account.specs.StopOut.{margin_by, margin_of, equity_of}
use Rattle.positions.specs.Money.{event_net}
use Rattle.positions.proofs.Room.{first_decides, second_decides, enough_of}
use Rattle.positions.proofs.money.is_enough.Goals as goal

pub returns-then-not-exceeds : goal.returns-then-not-exceeds
returns-then-not-exceeds c =
    let spec = c.args.ledger.now.spec in
    let b = balance c.args.ledger.now.events +ℤ total event_net c.args.events.now in
    let worth = equity_of spec.specs c.args.prices.now b c.args.left.now in
    first_decides c.exceeds.result (int_lt c.margin-before.result c.margin_by-margin.result) (int_lt worth c.margin_by-margin.result) _ c.exceeds.ensures c.if-not-exceeds.true
    (enough_of spec c.args.prices.now c.args.ledger.now.events c.args.events.now c.args.left.now c.margin-before.result c.margin_by-margin.result b worth c.requires.left
    (c.margin_by-margin.ensures ∙ ap (λ (s : AccountSpec). margin_by s.hedging s.specs s.leverage c.args.left.now) c.spec-spec.ensures.value)
    c.margin-before.ensures refl refl)

pub returns : goal.returns
returns c =
    let spec = c.args.ledger.now.spec in
    second_decides c.exceeds.result c.exceeds-2.result (int_lt c.margin-before.result c.margin_by-margin.result) (int_lt c.equity_of-equity.result c.margin_by-margin.result) _ c.exceeds.ensures c.exceeds-2.ensures c.if-not-exceeds.false
    (enough_of spec c.args.prices.now c.args.ledger.now.events c.args.events.now c.args.left.now c.margin-before.result c.margin_by-margin.result c.balance_with-balance.result c.equity_of-equity.result c.requires.left
    (c.margin_by-margin.ensures ∙ ap (λ (s : AccountSpec). margin_by s.hedging s.specs s.leverage c.args.left.now) c.spec-spec.ensures.value)
    c.margin-before.ensures
    (c.balance_with-balance.ensures ∙ ap (λ (z : ℤ). z +ℤ total event_net c.args.events.now) c.balance.ensures.value)
    (c.equity_of-equity.ensures ∙ ap (λ (s : AccountSpec). equity_of s.specs c.args.prices.now c.balance_with-balance.result c.args.left.now) c.spec-spec.ensures.value))
