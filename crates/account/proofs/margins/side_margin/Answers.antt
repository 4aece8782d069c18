use Rattle.std.proofs.Common.{◌≡◌, ◌∙◌, ◌∷◌, List, Bool, cond, true, false, filter, ap, subst, sym, rules}
use Rattle.std.specs.Int.{w128}
use Rattle.std.proofs.lemmas.Int.{int_wrap_fits}
use Rattle.account.specs.declared.position.Position.{Position}
use Rattle.account.specs.Deals.{total}
use Rattle.account.specs.StopOut.{position_margin, is_on, side_margin}
use Rattle.account.proofs.Amounts.{IsSum, sum_begins, next_of_list, nothing_left, end_of_list}
use Rattle.account.proofs.Bounds.{side_fits}
use Rattle.account.proofs.margins.side_margin.Goals as goal

-- the positions of a side, one by one
on_side : (p : Position) (rest others : List Position) (buy : Bool) (symbol : _) (b : Bool) → rest ≡ p ∷ others → b ≡ is_on symbol buy p → filter (is_on symbol buy) rest ≡ cond b (p ∷ filter (is_on symbol buy) others) (filter (is_on symbol buy) others)
on_side p rest others buy symbol b e t = ap (λ (ps : List Position). filter (is_on symbol buy) ps) e ∙ ap (λ (v : Bool). cond v (p ∷ filter (is_on symbol buy) others) (filter (is_on symbol buy) others)) (sym t)

pub loop-position-init : goal.loop-position-init
loop-position-init c = sum_begins _ _ c.of_cents-sum.ensures

pub loop-position-preserved-then-is_on : goal.loop-position-preserved-then-is_on
loop-position-preserved-then-is_on c =
    let e : c.loop-position.rest.now ≡ c.in-Some.position.now ∷ c.in-Some.others.now = search rules in
    let f : filter (is_on c.args.symbol c.args.buy) c.loop-position.rest.now ≡ c.in-Some.position.now ∷ filter (is_on c.args.symbol c.args.buy) c.in-Some.others.now = on_side c.in-Some.position.now c.loop-position.rest.now c.in-Some.others.now c.args.buy c.args.symbol true e (sym c.if-is_on.true ∙ c.is_on.ensures) in
    next_of_list (position_margin c.args.spec.now.specs c.args.spec.now.leverage) c.in-Some.position.now (filter (is_on c.args.symbol c.args.buy) c.loop-position.rest.now) (filter (is_on c.args.symbol c.args.buy) c.in-Some.others.now) c.loop-position.sum c.position_margin.result c.wrapped_sum-sum.result _ f c.position_margin.ensures c.wrapped_sum-sum.ensures c.loop-position.invariant

pub loop-position-preserved : goal.loop-position-preserved
loop-position-preserved c =
    let e : c.loop-position.rest.now ≡ c.in-Some.position.now ∷ c.in-Some.others.now = search rules in
    let f : filter (is_on c.args.symbol c.args.buy) c.loop-position.rest.now ≡ filter (is_on c.args.symbol c.args.buy) c.in-Some.others.now = on_side c.in-Some.position.now c.loop-position.rest.now c.in-Some.others.now c.args.buy c.args.symbol false e (sym c.if-is_on.false ∙ c.is_on.ensures) in
    subst (λ (ps : List Position). IsSum c.loop-position.sum (total (position_margin c.args.spec.now.specs c.args.spec.now.leverage) ps) (side_margin c.args.spec.now.specs c.args.spec.now.leverage c.args.positions.now c.args.buy c.args.symbol)) f c.loop-position.invariant

pub returns : goal.returns
returns c =
    end_of_list (position_margin c.args.spec.now.specs c.args.spec.now.leverage) (filter (is_on c.args.symbol c.args.buy) c.loop-position.rest.now) c.loop-position.sum _ (ap (λ (ps : List Position). filter (is_on c.args.symbol c.args.buy) ps) (nothing_left c.loop-position.rest.now (search rules))) c.loop-position.invariant
    ∙ int_wrap_fits w128 _ (side_fits c.args.spec.now.specs c.args.spec.now.leverage c.args.positions.now c.args.buy c.args.symbol c.requires.account.specs c.requires.account.leverage_from c.requires.held c.requires.few)
