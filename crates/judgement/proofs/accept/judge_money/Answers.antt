use Rattle.std.proofs.Common.{◌∙◌, sym}
use Rattle.std.specs.Int.{w64}
use Rattle.std.proofs.lemmas.Int.{to_z-of_z}
use Rattle.judgement.proofs.Passed.{none_left, payable_at, poor_at}
use Rattle.judgement.proofs.accept.judge_money.Goals as goal

pub returns-in-None : goal.returns-in-None
returns-in-None g c =
    absurd (none_left c.args.ledger.now c.spec-spec.result.now c.args.orders.now _ c.args.prices.now c.args.time_ms _ c.args.next c.args.request.now (to_z-of_z w64 c.args.time_ms c.ranges.time_ms) c.spec-spec.ensures.value c.requires.positions c.requires.others (sym c.in-None.is ∙ c.in_ok-act.ensures))

pub has_money_to-requires-clause-payable : goal.has_money_to-requires-clause-payable
has_money_to-requires-clause-payable g c =
    payable_at c.args.ledger.now c.spec-spec.result.now c.args.orders.now _ c.args.prices.now c.args.time_ms _ c.args.next c.args.request.now c.in-Some.act (to_z-of_z w64 c.args.time_ms c.ranges.time_ms) c.spec-spec.ensures.value c.requires.positions c.spec-spec.ensures.ranges.specs c.requires.order c.requires.fresh c.requires.others (sym c.in-Some.is ∙ c.in_ok-act.ensures)

pub returns-then-not-branch : goal.returns-then-not-branch
returns-then-not-branch g c =
    poor_at c.args.ledger.now c.spec-spec.result.now c.args.orders.now _ c.args.prices.now c.args.time_ms _ c.args.next c.args.request.now c.in-Some.act c.in_ok-has_money_to.field-0 (to_z-of_z w64 c.args.time_ms c.ranges.time_ms) c.spec-spec.ensures.value c.requires.positions c.requires.others (sym c.in-Some.is ∙ c.in_ok-act.ensures) c.in_ok-has_money_to.ensures c.if-not-branch.true
