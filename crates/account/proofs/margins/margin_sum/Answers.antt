use Rattle.std.proofs.Common.{◌≡◌, ◌∷◌, rules}
use Rattle.account.specs.StopOut.{position_margin}
use Rattle.account.proofs.Amounts.{sum_begins, next_of_list, nothing_left, end_of_list}
use Rattle.account.proofs.margins.margin_sum.Goals as goal

pub loop-position-init : goal.loop-position-init
loop-position-init c = sum_begins _ _ c.of_cents-sum.ensures

pub loop-position-preserved : goal.loop-position-preserved
loop-position-preserved c =
    let e : c.loop-position.rest.now ≡ c.in-Some.position.now ∷ c.in-Some.others.now = search rules in
    next_of_list (position_margin c.args.spec.now.specs c.args.spec.now.leverage) c.in-Some.position.now c.loop-position.rest.now c.in-Some.others.now c.loop-position.sum c.position_margin.result c.wrapped_sum-sum.result _ e c.position_margin.ensures c.wrapped_sum-sum.ensures c.loop-position.invariant

pub returns : goal.returns
returns c = end_of_list (position_margin c.args.spec.now.specs c.args.spec.now.leverage) c.loop-position.rest.now c.loop-position.sum _ (nothing_left c.loop-position.rest.now (search rules)) c.loop-position.invariant
