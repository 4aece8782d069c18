use Rattle.std.proofs.Common.{◌≡◌, ◌∷◌, List, rules, subst, FitsSigned}
use Rattle.std.specs.List.{All}
use Rattle.std.specs.Int.{w128}
use Rattle.std.proofs.lemmas.List.Elements.{All-tail}
use Rattle.account.specs.declared.event.Event.{Event}
use Rattle.account.proofs.Amounts.{sum_begins, next_of_list, nothing_left, end_of_list}
use Rattle.positions.specs.Money.{event_net}
use Rattle.positions.proofs.money.nets.Goals as goal

pub loop-event-init : goal.loop-event-init
loop-event-init c = (sum_begins _ _ c.of_cents-sum.ensures, c.requires)

pub loop-event-preserved : goal.loop-event-preserved
loop-event-preserved c =
    let e : c.loop-event.rest.now ≡ c.in-Some.event.now ∷ c.in-Some.others.now = search rules in (
      next_of_list event_net c.in-Some.event.now c.loop-event.rest.now c.in-Some.others.now c.loop-event.sum c.event_net.result c.wrapped_sum-sum.result _ e c.event_net.ensures c.wrapped_sum-sum.ensures c.loop-event.invariant.0,
      All-tail (λ (x : Event). FitsSigned w128 (event_net x)) c.in-Some.event.now c.in-Some.others.now (subst (λ (es : List Event). All (λ (x : Event). FitsSigned w128 (event_net x)) es) e c.loop-event.invariant.1),
    )

pub returns : goal.returns
returns c = end_of_list event_net c.loop-event.rest.now c.loop-event.sum _ (nothing_left c.loop-event.rest.now (search rules)) c.loop-event.invariant.0
