use Rattle.std.proofs.Common.{◌≡◌, ◌∷◌, List, rules, subst}
use Rattle.std.specs.List.{All}
use Rattle.std.proofs.lemmas.List.Elements.{All-tail}
use Rattle.account.specs.declared.position.Position.{Position}
use Rattle.account.specs.StopOut.{floating}
use Rattle.account.specs.Ranges.{Floats}
use Rattle.account.proofs.Amounts.{sum_begins, next_of_list, nothing_left, end_of_list}
use Rattle.account.proofs.floating.floating_sum.Goals as goal

pub loop-position-init : goal.loop-position-init
loop-position-init c = (sum_begins _ _ c.of_cents-sum.ensures, c.requires.floats)

pub loop-position-preserved : goal.loop-position-preserved
loop-position-preserved c =
    let e : c.loop-position.rest.now ≡ c.in-Some.position.now ∷ c.in-Some.others.now = search rules in (
      next_of_list (floating c.args.specs.now c.args.prices.now) c.in-Some.position.now c.loop-position.rest.now c.in-Some.others.now c.loop-position.sum c.floating.result c.wrapped_sum-sum.result _ e c.floating.ensures c.wrapped_sum-sum.ensures c.loop-position.invariant.0,
      All-tail (Floats c.args.specs.now c.args.prices.now) c.in-Some.position.now c.in-Some.others.now (subst (λ (ps : List Position). All (Floats c.args.specs.now c.args.prices.now) ps) e c.loop-position.invariant.1),
    )

pub returns : goal.returns
returns c = end_of_list (floating c.args.specs.now c.args.prices.now) c.loop-position.rest.now c.loop-position.sum _ (nothing_left c.loop-position.rest.now (search rules)) c.loop-position.invariant.0
